-- How a run goes on: the call that five numbers name, and what follows it.
use Prim.Native.Nat.{ℕ, ◌-◌, ◌≤◌, ◌<◌}
use mathlib.Core.Path.{◌≡◌, refl, sym, ap, ◌∙◌}
use mathlib.Core.Bool.{Bool, true, false, ◌&&◌}
use mathlib.Core.List.{List, [], ◌∷◌}
use native.Mathlib.Omega.{arith}
use borrow.Author.Tests.{le-leb, lt-leb, leb-true, leb-false, eq-eqb, ne_eqb}
use lib.Dec.{leb, eqb}
use lib.ListN.{length, get_or, drop}
use Rattle.error.specs.Choice.{if}
use Rattle.laws.proofs.Tests.{if-true, if-false}
use Rattle.replay.specs.declared.call.Named.{Named}
use Rattle.replay.specs.declared.call.Named.TheVariants.{Close, Feed}
use Rattle.replay.specs.declared.call.Lending.{Lending}
use Rattle.replay.specs.Calls.{room_of, is_there, named, Tests, There, Goes}

abbrev pub part_of : List ℕ → Lending
part_of ns = record { start = get_or ns 1 0; size = get_or ns 2 0; room = get_or ns 3 0; lent = get_or ns 4 0 }

abbrev first_of : List ℕ → Named
first_of ns = if (eqb (get_or ns 0 0) 0) Close (Feed (part_of ns))

module _ (samples room work : ℕ) where
  -- the calls from one on
  abbrev from : List ℕ → Named → ℕ → List Named
  from ns c answers =
      if (leb 3 answers && is_there c samples room work) (c ∷ named (drop 5 ns) samples (room - room_of c) work (answers - 3)) []

  five : (ns : List ℕ) → 5 ≤ length ns → (answers : ℕ) → named ns samples room work answers ≡ from ns (first_of ns) answers
  unfolding named
  five [] h answers = absurd (omega arith)
  five (a ∷ []) h answers = absurd (omega arith)
  five (a ∷ b ∷ []) h answers = absurd (omega arith)
  five (a ∷ b ∷ c ∷ []) h answers = absurd (omega arith)
  five (a ∷ b ∷ c ∷ d ∷ []) h answers = absurd (omega arith)
  five (a ∷ b ∷ c ∷ d ∷ e ∷ ns) h answers = refl

  -- fewer than five numbers, or no room for an answer
  pub few : (ns : List ℕ) (answers : ℕ) → length ns < 5 → named ns samples room work answers ≡ []
  unfolding named
  few [] answers h = refl
  few (a ∷ []) answers h = refl
  few (a ∷ b ∷ []) answers h = refl
  few (a ∷ b ∷ c ∷ []) answers h = refl
  few (a ∷ b ∷ c ∷ d ∷ []) answers h = refl
  few (a ∷ b ∷ c ∷ d ∷ e ∷ ns) answers h = absurd (omega arith)

  pub no_room : (ns : List ℕ) (answers : ℕ) → answers < 3 → named ns samples room work answers ≡ []
  no_room ns answers h = go (leb 5 (length ns)) refl
    where
      go : (t : Bool) → leb 5 (length ns) ≡ t → named ns samples room work answers ≡ []
      go true e = let k = leb-true _ _ e in five ns k answers ∙ if-false _ _ _ (ap (λ (b : Bool). b && is_there (first_of ns) samples room work) (lt-leb 3 answers h))
      go false e = few ns answers (leb-false _ _ e)

  module _ (ns : List ℕ) (h : 5 ≤ length ns) where
    named_first : (c : Named) → first_of ns ≡ c → (answers : ℕ) → named ns samples room work answers ≡ from ns c answers
    named_first c e answers = five ns h answers ∙ ap (λ (c : Named). from ns c answers) e

    goes_on : (c : Named) → first_of ns ≡ c → is_there c samples room work ≡ true → There c samples room work → Goes ns samples room work c
    goes_on c e t there =
        record {
          is = λ answers k. named_first c e answers
              ∙ if-true _ _ _ (ap (λ (b : Bool). b && is_there c samples room work) (le-leb 3 answers k) ∙ t);
          there = there;
        }

    pub closes : get_or ns 0 0 ≡ 0 → Goes ns samples room work Close
    closes e = goes_on Close (if-true _ _ _ (eq-eqb _ _ e)) refl tt

    module _ (e : get_or ns 0 0 ≡ 0 → ⊥) (b : Bool) (t : Tests (part_of ns) samples room work b) where
      feeding : first_of ns ≡ Feed (part_of ns)
      feeding = if-false _ _ _ (ne_eqb _ _ e)

      pub feeds : b ≡ true → Goes ns samples room work (Feed (part_of ns))
      feeds y = goes_on (Feed (part_of ns)) feeding (sym t.is ∙ y) (t.fits y)

      pub no-parts : b ≡ false → (answers : ℕ) → named ns samples room work answers ≡ []
      no-parts n answers = named_first (Feed (part_of ns)) feeding answers ∙ if-false _ _ _ (go (leb 3 answers))
        where
          go : (l : Bool) → (l && is_there (Feed (part_of ns)) samples room work) ≡ false
          go true = sym t.is ∙ n
          go false = refl
