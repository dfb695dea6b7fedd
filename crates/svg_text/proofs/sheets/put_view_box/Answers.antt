use Rattle.svg_text.proofs.sheets.put_view_box.Goals as goal

pub returns : goal.returns
returns c =
    let seen = rw c.as_slice.ensures at c.put_attribute.ensures in rw c.in_ok-seen.ensures at seen
