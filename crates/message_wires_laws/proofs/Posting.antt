-- What is posted on the wires is owed by the post.
use Rattle.std.proofs.Common.{◌≡◌, inl, inr, ℕ, List, ◌++◌, sym, ◌∙◌, ap, subst}
use Rattle.gd_words.specs.Members.{IsAmong}
use Rattle.gd_words.proofs.Among.{among-left, among-right}
use Rattle.schedule.specs.declared.event.Event.{Event}
use Rattle.world_semantics.specs.World.{World}
use Rattle.computed_changes.specs.Laws.{IsSent}
use Rattle.letters.specs.Routes.{Letter, is_between}
use Rattle.letters.specs.Posts.{HasPlayed, with_letters, without_those_between}
use Rattle.message_wires.specs.Wires.{Sent, Wires, wires_after_posts, paid_between}
use Rattle.message_wires.specs.Play.{MachineState}
use Rattle.message_wires.specs.Runs.{letters_in}
use Rattle.message_wires_laws.specs.Carried.{IsOn, AreTidy, IsCarried}
use Rattle.message_wires_laws.proofs.Tidy.{more-tidy, posted-tidy, posted-owed, between-tidy, other-letters}
use Rattle.message_wires_laws.proofs.Tidy.{posted-among}

-- these events lead to a state with some letters
abbrev pub Carries : List Event → MachineState → Type 0
Carries events s = (sent : List Letter) × IsCarried events s sent

-- letters are posted on wires on which this is owed: what was on these wires was sent, and so were the letters
pub posted-on : (s : MachineState) {sent : List Letter} (events : List Event) (world : World) (wires : Wires)
    (owed letters : List Letter) → letters_in wires.owed ≡ owed
    → AreTidy wires sent → ((one : Sent) → IsOn one wires → IsSent world one.letter.message)
    → ((letter : Letter) → IsAmong letter (letters ++ sent) → IsSent world letter.message)
    → HasPlayed s.site events (with_letters letters (record { world = world; owed = owed; sent = sent }))
    → Carries events (record s { world = world; wires = wires_after_posts letters wires })
posted-on s {sent = sent} events world wires owed letters same tidy honest were played = (
  letters ++ sent,
  record {
    played =
        subst (λ (all : List Letter). HasPlayed s.site events
        (record { world = world; owed = all; sent = letters ++ sent }))
        (ap (λ (all : List Letter). all ++ letters) (sym same) ∙ sym (posted-owed letters wires)) played;
    tidy = posted-tidy letters (λ letter among. among-left letter letters sent among)
        (more-tidy (λ letter among. among-right letter letters sent among) tidy);
    honest = λ one on. elim (posted-among letters wires one on) [
      | inl before ↦ honest one before
      | inr new ↦ were one.letter (among-left one.letter letters sent new)
    ];
  },
)

-- letters are posted where what was between two nodes is owed no more
pub posted-between : (s : MachineState) (sent : List Letter) (node processor : ℕ) (letters : List Letter)
    → AreTidy s.wires sent
    → (letters_in (wires_after_posts letters (paid_between node processor s.wires)).owed
    ≡ without_those_between node processor (letters_in s.wires.owed) ++ letters)
    × AreTidy (wires_after_posts letters (paid_between node processor s.wires)) (letters ++ sent)
posted-between s sent node processor letters tidy = (
  posted-owed letters (paid_between node processor s.wires)
      ∙ ap (λ (all : List Letter). all ++ letters) (other-letters (is_between node processor) s.wires.owed),
  posted-tidy letters (λ letter among. among-left letter letters sent among)
      (more-tidy (λ letter among. among-right letter letters sent among) (between-tidy node processor tidy)),
)
