-- One octet of kind 00 of a file s.
use Prim.Native.Nat.{ℕ, ◌+◌, ◌<◌, ◌≤◌}
use mathlib.Core.Path.{◌≡◌}
use mathlib.Core.List.{List}
use borrow.Author.Tests.{lt-ltb, le-ltb, lt-leb, le-leb}
use lib.ListN.{length, drop, get_or, drop_of_length-le}
use Rattle.error.specs.Answer.{Answer, refuses}
use Rattle.laws.proofs.Lists.{drop_at}
use Rattle.ext.specs.Internal.Bytewise.{octets}

module _ {A : Type 0} (s : List ℕ) (start at : ℕ) (k : ℕ → ℕ → List ℕ → Answer A) where
  pub octets-end : length s ≤ at → octets (drop at s) start at k ≡ refuses 9 at
  unfolding octets
  octets-end h = rw (drop_of_length-le s h)

  pub octets-over : at < length s → start + 4096 ≤ at → octets (drop at s) start at k ≡ refuses 10 at
  unfolding octets
  octets-over h o = rw (drop_at s at h) (simp (octets, le-leb (start + 4096) at o))

  pub octets-last : at < length s → at < start + 4096 → get_or s at 0 < 128 → octets (drop at s) start at k ≡ k (at + 1) 0 (drop (at + 1) s)
  unfolding octets
  octets-last h o b = rw (drop_at s at h) (simp (octets, lt-leb (start + 4096) at o, lt-ltb (get_or s at 0) 128 b))

  pub octets-more : at < length s → at < start + 4096 → 128 ≤ get_or s at 0
      → octets (drop at s) start at k ≡ octets (drop (at + 1) s) start (at + 1) k
  unfolding octets
  octets-more h o b = rw (drop_at s at h) (simp (octets, lt-leb (start + 4096) at o, le-ltb (get_or s at 0) 128 b))
