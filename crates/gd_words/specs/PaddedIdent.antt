-- An `Ident`'s fields from its text.
use Rattle.std.proofs.Common.{◌≡◌, ◌≤◌, length, take, sym}
use Rattle.gd_words.specs.Spelling.{text_with_zeros}
use Rattle.gd_words.specs.declared.ident.Ident.TheInside.{Inside}
use Rattle.gd_words.specs.PaddedText.{length-kept}

pub ident_again : (ident : Inside) → ident.len ≤ 31 → ident.bytes ≡ text_with_zeros 31 (take ident.len ident.bytes)
    → ◌≡◌ {A = Inside} (record {
      bytes = text_with_zeros 31 (take ident.len ident.bytes);
      len = length (take ident.len ident.bytes);
    }) ident
ident_again ident h e = λ i. record { bytes = sym e i; len = length-kept 31 ident.len ident.bytes h e i }
