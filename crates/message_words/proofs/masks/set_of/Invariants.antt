use Rattle.std.proofs.Common.{◌≡◌, ◌-◌, ◌++◌, length, take}
use Rattle.message_layout.specs.Reading.{bits_of}
use Rattle.message_words.proofs.masks.set_of.Given as goal

abbrev pub invariant-loop-place : goal.invariant-loop-place
invariant-loop-place l = record {
  all : length l.members ≡ 16;
  read : take l.place l.members ++ bits_of (16 - l.place) l.left ≡ bits_of 16 l.mask;
}
