use Rattle.std.proofs.Common.{refl, arith}
use Rattle.std.proofs.lemmas.Bool.{le-leb}
use Rattle.channel_laws.proofs.laws.packets_fit_the_layout.Goals as goal

pub returns : goal.returns
returns c n p w i from to here there =
    let r = w.flight p i in
    rw (
      le-leb p.sender 16 from,
      le-leb p.receiver 16 to,
      le-leb p.incarnation.sender 127 (omega (arith, r.sender, here)),
      le-leb p.incarnation.receiver 127 (omega (arith, r.receiver, there)),
      r.fits,
    ) refl
