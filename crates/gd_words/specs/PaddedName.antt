-- A `Name`'s fields from its text.
use Rattle.std.proofs.Common.{◌≡◌, ◌≤◌, length, take, sym}
use Rattle.gd_words.specs.Spelling.{text_with_zeros}
use Rattle.gd_words.specs.declared.name.Name.TheInside.{Inside}
use Rattle.gd_words.specs.PaddedText.{length-kept}

pub name_again : (name : Inside) → name.len ≤ 6 → name.bytes ≡ text_with_zeros 6 (take name.len name.bytes)
    → ◌≡◌ {A = Inside} (record {
      bytes = text_with_zeros 6 (take name.len name.bytes);
      len = length (take name.len name.bytes);
    }) name
name_again name h e = λ i. record { bytes = sym e i; len = length-kept 6 name.len name.bytes h e i }
