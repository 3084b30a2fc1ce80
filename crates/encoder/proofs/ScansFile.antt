-- From the tests, the header and the planes to what whole making promises.
use Prim.Native.Nat.{ℕ, ◌+◌, ◌-◌, ◌*◌}
use mathlib.Core.Path.{◌≡◌, refl, sym, ap, subst, ◌∙◌}
use mathlib.Core.List.{List, ◌++◌}
use borrow.Rule.Slice.PartMut.{mid_of, put_mid}
use lib.IntN.{ℤ}
use lib.ListN.{length, drop}
use Rattle.error.specs.Answer.{Answer, gives, refuses, bind, map}
use Rattle.error.specs.Emits.{Emits}
use Rattle.laws.proofs.Tests.{zero_one}
use Rattle.image.specs.Geometry.{plane_bytes}
use Rattle.header.specs.Write.{ext_header}
use Rattle.options.specs.declared.EncodeOptions.{EncodeOptions}
use Rattle.rules.specs.Rule.{rule_asked, rule_given}
use Rattle.quantize.proofs.FramesJoined.{scans-long}
use Rattle.encoder.specs.File.{file_of}
use Rattle.encoder.specs.Make.{check_scans, scan_bytes, file_of_scans, Makes}
use Rattle.encoder.specs.Internal.Parts.{Heads}
use Rattle.encoder.specs.Internal.Scans.{PutsScans}
use Rattle.encoder.proofs.PlanesFile.{filed, unfiled}
use Rattle.encoder.proofs.ScanTests.{Passed, passed}

module _ (o : EncodeOptions) (w h n : ℕ) (gray text lengths : List ℕ) (work : List ℤ) where
  abbrev tests : Answer (Unit {0})
  tests = check_scans 16 o w h n (length gray) (length work)

  abbrev file : Answer (List ℕ)
  file = file_of_scans 16 o w h n gray text lengths (length work)

  abbrev header : Answer (List ℕ)
  header = ext_header o.strict w h o.ext text lengths

  abbrev bytes : List ℕ
  bytes = scan_bytes (rule_given (rule_asked o)) w h gray n

  by_tests : (a : Answer (Unit {0})) → tests ≡ a → file ≡ bind a (λ _. map (λ front. front ++ bytes) header)
  unfolding file_of_scans
  by_tests a e = ap (λ (a : Answer (Unit {0})). bind a (λ _. file_of o w h text lengths bytes)) e

  -- what the tests refuse
  pub unmade : (out : List ℕ) (code place : ℕ) → tests ≡ refuses code place
      → Makes 16 o w h n gray text lengths out work (refuses code place) out work
  unmade out code place e =
      record {
        emits =
            subst (λ (a : Answer (List ℕ)). Emits a (refuses code place) out out) (sym (by_tests (refuses code place) e))
            (record { answer = refl; bytes = refl });
        beyond = refl;
        spared = λ _. refl;
        refused = λ _ _ _. refl;
      }

  module _ (e : tests ≡ gives tt) where
    abbrev p : Passed 16 o.quantize w h n (length gray) (length work)
    p = passed 16 o w h n (length gray) (length work) e

    body-long : length bytes ≡ n * plane_bytes w h
    body-long = scans-long (rule_given (rule_asked o)) w h gray p.sized.wide p.sized.high n p.enough

    made_as : (r : Answer ℕ) (out out' : List ℕ) → Emits (file_of o w h text lengths bytes) r out out' → Emits file r out out'
    made_as r out out' m = subst (λ (a : Answer (List ℕ)). Emits a r out out') (sym (by_tests (gives tt) e)) m

    module _ (out : List ℕ) (body : ℕ) (b : body ≡ n * plane_bytes w h) where
      long : body ≡ length bytes
      long = b ∙ sym body-long

      -- what the header or the output refuses
      pub not-headed : (mid : List ℕ) (code place : ℕ) → Heads header body (refuses code place) out mid
          → Makes 16 o w h n gray text lengths out work (refuses code place) mid work
      not-headed mid code place c =
          record {
            emits = made_as (refuses code place) out mid (unfiled o w h text lengths out bytes body long mid code place c);
            beyond = refl;
            spared = λ _. refl;
            refused = λ _ _ _. refl;
          }

      pub made : (start : ℕ) (mid last : List ℕ) (work' : List ℤ) → Heads header body (gives start) out mid
          → PutsScans (rule_given (rule_asked o)) w h n gray (mid_of start (length mid - start) mid) work last work'
          → Makes 16 o w h n gray text lengths out work (gives (start + body)) (put_mid start (length mid - start) mid last) work'
      made start mid last work' c q =
          record {
            emits =
                made_as (gives (start + body)) out _
                (filed o w h text lengths out bytes body long start mid last c
                (q.bytes ∙ ap (λ (k : ℕ). bytes ++ drop k (mid_of start (length mid - start) mid)) (sym body-long)));
            beyond = q.beyond;
            spared = q.spared;
            refused = λ code place f. zero_one (cc);
          }
