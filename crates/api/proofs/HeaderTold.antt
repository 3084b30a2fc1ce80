-- From the sizes that the header's reader told to what is sniffed.
use Rattle.std.proofs.Common.{Option, Some, None}
use Prim.Native.Nat.{ℕ}
use mathlib.Core.Path.{◌≡◌, refl}
use mathlib.Core.Bool.{true}
use mathlib.Core.List.{List}
use lib.ListN.{length}
use Rattle.error.specs.Answer.{Answer, gives, refuses, map}
use Rattle.header.specs.Settings.{inner}
use Rattle.header.specs.Read.{Outline, outline, read_header}
use Rattle.decoder.proofs.Shaped.{outline-shape}
use Rattle.api.specs.Sniff.{sniff_sizes, sniff_header, sniffed}
use Rattle.api.specs.Internal.Parts.{Sized, front_of, front_in}
use Rattle.api.specs.declared.Sniffed.{Sniffed}
use Rattle.api.specs.declared.Sniffed.TheVariants.{Neither}
use Rattle.api.specs.declared.front.Front.{Front}

module _ (s : List ℕ) where
  abbrev pub sniff_front : Option Front → Sniffed
  sniff_front (Some f) = sniff_sizes s f.width f.height f.start
  sniff_front None = Neither

  pub front-sniffed : sniff_front (front_in s) ≡ sniffed s
  unfolding sniffed
  front-sniffed = go (map outline (read_header (inner true) s))
    where
      go : (a : Answer Outline) → sniff_front (front_of a) ≡ sniff_header s a
      go (gives h) = refl
      go (refuses code offset) = refl

  abbrev pub FrontSized : Option Front → Type 0
  FrontSized (Some f) = Sized f.width f.height f.start (length s)
  FrontSized None = Unit {0}

  pub front-sized : FrontSized (front_in s)
  front-sized = go (map outline (read_header (inner true) s)) refl
    where
      go : (a : Answer Outline) → map outline (read_header (inner true) s) ≡ a → FrontSized (front_of a)
      go (gives h) e = let p = outline-shape (inner true) s h e in record { wide = p.0; high = p.1; within = p.2 }
      go (refuses code offset) e = tt
