use Rattle.std.proofs.Common.{length, arith}
use Rattle.world_semantics.proofs.Reached.{run-kept}
use Rattle.letter_laws.specs.takeover_laws.proofs.Kept.{IsGood, run-keeps}
use Rattle.served_requests.proofs.Played.{served-begins, plays-served}
use Rattle.served_requests.proofs.laws.awaited_requests_stay_served.Goals as goal

pub returns : goal.returns
returns c = record {
  beginning = served-begins;
  event = λ site events post next event fit out few run known served plays.
      (let kept = run-kept fit.seats run in
      let good : IsGood site (length events) post.world = record {
        roles = kept.roles;
        stopped = kept.downs;
        steady = kept.steady;
        seated = kept.seated;
        invariant = run-keeps site fit events post.world (omega (arith, few)) run;
      } in
      plays-served site fit out (length events) post next event few good known served plays);
}
