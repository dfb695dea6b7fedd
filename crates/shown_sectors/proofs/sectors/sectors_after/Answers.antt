use Rattle.std.proofs.Common.{◌≡◌, ◌∙◌, ap, length, arith}
use Rattle.std.proofs.lemmas.Result.{IfOk-weaker}
use Rattle.shown_sectors.specs.Sectors.{sectors_of}
use Rattle.shown_sectors.specs.Tables.{blank_rows, rows_after, rows_sectors}
use Rattle.shown_sectors.proofs.Rows.{written-rows, rows-length}
use Rattle.shown_sectors.proofs.sectors.sectors_after.Goals as goal

pub sectors-requires : goal.sectors-requires
sectors-requires c =
    omega (
      arith,
      ap length c.put_all.ensures,
      ap (λ rows. length (rows_after rows c.args.shown.now)) c.in_ok-table.ensures,
      ap (λ specs. length (rows_after (blank_rows specs) c.args.shown.now)) c.as_slice.ensures,
      rows-length c.args.shown.now c.args.site.now.processes,
      c.requires,
    )

pub returns : goal.returns
returns c =
    let told = ap (λ rows. rows_sectors 0 rows)
    (c.put_all.ensures
    ∙ ap (λ rows. rows_after rows c.args.shown.now) (c.in_ok-table.ensures ∙ ap blank_rows c.as_slice.ensures))
    ∙ written-rows c.args.shown.now c.args.site.now.processes in
    IfOk-weaker c.sectors.result (λ sectors. sectors ≡ rows_sectors 0 c.put_all.new.self)
    (λ sectors. sectors ≡ sectors_of c.args.shown.now 0 c.args.site.now.processes)
    (λ sectors same. same ∙ told) c.sectors.ensures
