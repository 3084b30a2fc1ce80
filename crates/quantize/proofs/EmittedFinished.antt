-- THE MACHINE'S BYTES ARE THE DEFINITION'S: from what some samples leave, it emits the bytes that more of them finish, and keeps what these
-- leave.
-- Assumes nothing.
use Prim.Native.Nat.{ℕ, zero, suc, ◌+◌, ◌-◌, ◌*◌, ◌/◌, ◌%◌, ◌^◌, ◌≤◌, ◌<◌}
use mathlib.Core.Path.{◌≡◌, refl, sym, ap, ◌∙◌, subst}
use mathlib.Core.Bool.{true}
use mathlib.Core.Logic.{◌⊎◌, ⊎_elim}
use mathlib.Core.List.{List, [], ◌∷◌, ◌++◌, append_assoc, append-nil}
use native.Mathlib.Nat.{mod-lt, div-add-mod', eq-or-lt_of_le, add-zero}
use native.Mathlib.Omega.{arith}
use borrow.Author.Tests.{leb-true}
use lib.Dec.{leb}
use lib.ListN.{length, get_or, take, length-append}
use lib.Seq.{take-suc, length-take-le}
use Rattle.rules.specs.Bits.{upto, bit}
use Rattle.rules.specs.Diffusion.{white}
use Rattle.rules.specs.Ordered.{bound, cell}
use Rattle.rules.specs.Rule.{Rule, threshold, dither, ordered, rightwards, dot, enough_work}
use Rattle.quantize.specs.Finished.{Setting, Bytewise, count, frame, dot_of, finished}
use Rattle.rules.specs.Packed.{byte_at}
use Rattle.quantize.specs.Internal.Machine.{MachineState, MachineStep, byte_step, machine_step, carried, machine_bytes}
use Rattle.dither.specs.Internal.Carry.{machine_dot, next}
use Rattle.quantize.specs.Internal.Place.{begun_by, Begun}
use Rattle.quantize.specs.Internal.Engine.{BeginsByte, KeptAfter}
use Rattle.dither.proofs.HeldRange.{Held}
use Rattle.quantize.proofs.Places.{bytewise, on-column, end-column, count-last, count-open}
use Rattle.quantize.proofs.BytePacked.{begun-none, begun-ext, begun_more, byte_last, begun-on}
use Rattle.quantize.proofs.MachineSteps.{last_or, byte-shut, byte-open, carry-after, carried-long}
use Rattle.quantize.proofs.DotsDepend.{dot_of-begun}
use Rattle.quantize.proofs.FinishedGrows.{finished-add}
use Rattle.quantize.proofs.DiffusionKept.{here, value-next, corner-next, keeps-next}

-- ---- its byte, where the row is finished byte after byte

module _ (s : Setting) (xs : List ℕ) (g : ℕ) (wide : 0 < s.width) (high : 0 < s.height) (st : MachineState) where
  abbrev joint : List ℕ
  joint = xs ++ (g ∷ [])

  abbrev n : ℕ
  n = length xs

  abbrev step : MachineStep
  step = byte_step s.rule s.width (n / s.width % s.height) (n % s.width) g st

  long : length joint ≡ n + 1
  long = length-append xs (g ∷ [])

  module _ (b : Bytewise s.rule (n / s.width % s.height)) (begins : BeginsByte s xs st)
      (dot_is : machine_dot s.rule s.width (n / s.width % s.height) (n % s.width) g st.carry
      ≡ dot s.rule s.width (frame s.width s.height joint (n / s.width / s.height)) (n % s.width)
      (n / s.width % s.height)) where
    begun-same : Begun s.width (dot_of s joint) n st.begun
    begun-same =
        begun-ext s.width (dot_of s xs) (dot_of s joint) n st.begun wide
        (λ c h. let l = mod-lt n wide in let e = div-add-mod' n s.width in sym
        (dot_of-begun s wide xs (g ∷ []) (n / s.width) c (omega arith) b (omega arith)))
        begins

    abbrev dots : ℕ
    dots = st.begun * 2 + bit (machine_dot s.rule s.width (n / s.width % s.height) (n % s.width) g st.carry)

    dots-are : dots ≡ begun_by s.width (dot_of s joint) n (n % s.width % 8 + 1)
    unfolding dot_of
    dots-are =
        begun_more s n wide (dot_of s joint) st.begun
        (bit (machine_dot s.rule s.width (n / s.width % s.height) (n % s.width) g st.carry)) begun-same (ap bit dot_is)

    abbrev Done : MachineStep → Type 0
    Done p = BeginsByte s joint p.state × (finished s joint ≡ finished s xs ++ p.bytes)

    -- the byte is finished, or goes on
    pub byte-done : Done step
    unfolding upto
    byte-done =
        ⊎_elim
        (λ (h : (s.width ≤ n % s.width + 1) ⊎ (7 ≤ n % s.width % 8)).
        let k : finished s joint ≡ finished s xs ++ (dots * 2 ^ (7 - n % s.width % 8) ∷ []) = ends h in
        subst Done (sym (byte-shut s.rule s.width (n / s.width % s.height) (n % s.width) g st h))
        (rw long (begun-none s.width (dot_of s joint) (n + 1) (start h)), k))
        (λ (h : (n % s.width + 1 < s.width) × (n % s.width % 8 < 7)).
        subst Done (sym (byte-open s.rule s.width (n / s.width % s.height) (n % s.width) g st h.0 h.1)) (
          rw long (begun-on s n wide (dot_of s joint) dots dots-are h.0 h.1),
          finished-add s wide xs (g ∷ []) 0
              (rw long (count-open s n wide b h.0 h.1 ∙ sym (add-zero (count s n)))),
        ))
        (last_or s.width (n % s.width))
      where
        start : (s.width ≤ n % s.width + 1) ⊎ (7 ≤ n % s.width % 8) → (n + 1) % s.width % 8 ≡ 0
        start h =
            let i = mod-lt n wide in
            ⊎_elim
            (λ (e : n % s.width + 1 ≡ s.width). rw (end-column s n wide e))
            (λ (l : n % s.width + 1 < s.width). rw (on-column s n wide l)
            (⊎_elim (λ (z : s.width ≤ n % s.width + 1). let f : ⊥ = omega arith in absurd f) (λ (z : 7 ≤ n % s.width % 8). omega arith)
            h))
            (eq-or-lt_of_le (omega arith))

        ends : (s.width ≤ n % s.width + 1) ⊎ (7 ≤ n % s.width % 8)
            → finished s joint ≡ finished s xs ++ (dots * 2 ^ (7 - n % s.width % 8) ∷ [])
        ends h =
            finished-add s wide xs (g ∷ []) 1 (rw long (count-last s n wide b h))
            ∙ ap (λ (x : ℕ). finished s xs ++ (x ∷ []))
            (ap (byte_at s.width (dot_of s joint)) (add-zero (count s n)) ∙ sym (byte_last s n wide (dot_of s joint) dots dots-are b h))

-- ---- under every rule

-- what a sample of the rule leaves, and the bytes that it finishes
record Follows (rule : Rule) (w h frames : ℕ) (xs : List ℕ) (g : ℕ) (st : MachineState) : Type 0 where
  keeps : KeptAfter rule (record { rule = rule; width = w; height = h; frames = frames }) (xs ++ (g ∷ []))
      (machine_step rule w (length xs / w % h) (length xs % w) g st).state
  corner_held : Held (machine_step rule w (length xs / w % h) (length xs % w) g st).state.carry.corner
  bytes_are : finished (record { rule = rule; width = w; height = h; frames = frames }) (xs ++ (g ∷ []))
      ≡ finished (record { rule = rule; width = w; height = h; frames = frames }) xs
      ++ (machine_step rule w (length xs / w % h) (length xs % w) g st).bytes

follow : (rule : Rule) (w h frames : ℕ) (xs : List ℕ) (g : ℕ) (st : MachineState) → 0 < w → 0 < h → g < 256
    → enough_work rule w (length st.carry.kept) ≡ true → Held st.carry.corner
    → KeptAfter rule (record { rule = rule; width = w; height = h; frames = frames }) xs st → Follows rule w h frames xs g st
unfolding machine_step next machine_dot dot
follow (threshold t) w h frames xs g st wide high byte room small k =
    let s : Setting = record { rule = threshold t; width = w; height = h; frames = frames } in
    let D =
    byte-done s xs g wide high st (bytewise (threshold t) (length xs / w % h)) k (ap (leb t) (sym (here w h xs g wide high byte))) in
    record { keeps = D.0; corner_held = rw (carry-after (threshold t) w (length xs / w % h) (length xs % w) g st) small; bytes_are = D.1 }
follow dither w h frames xs g st wide high byte room small k =
    let s : Setting = record { rule = dither; width = w; height = h; frames = frames } in
    let long : w ≤ length st.carry.kept = (let l = leb-true (2 * w) (length st.carry.kept) room in omega arith) in
    let e = carry-after dither w (length xs / w % h) (length xs % w) g st in
    let D =
    byte-done s xs g wide high st (bytewise dither (length xs / w % h)) k.0
    (ap white (value-next w h xs g wide high byte rightwards refl st.carry long small k.1)) in
    record {
      keeps = (D.0, rw e (keeps-next w h xs g wide high byte rightwards refl st.carry long small k.1));
      corner_held = rw e (corner-next w h xs g wide high byte rightwards refl st.carry long small k.1);
      bytes_are = D.1;
    }
follow (ordered side table) w h frames xs g st wide high byte room small k =
    let s : Setting = record { rule = ordered side table; width = w; height = h; frames = frames } in
    let D =
    byte-done s xs g wide high st (bytewise (ordered side table) (length xs / w % h)) k
    (ap (leb (bound side (cell side table (length xs % w) (length xs / w % h)))) (sym (here w h xs g wide high byte))) in
    record {
      keeps = D.0;
      corner_held = rw (carry-after (ordered side table) w (length xs / w % h) (length xs % w) g st) small;
      bytes_are = D.1;
    }

-- ---- a list of samples

module _ (s : Setting) (xs samples : List ℕ) (st : MachineState) (wide : 0 < s.width) (high : 0 < s.height)
    (octets : (i : ℕ) → get_or samples i 0 < 256)
    (room : enough_work s.rule s.width (length st.carry.kept) ≡ true) (small : Held st.carry.corner)
    (k : KeptAfter s.rule s xs st) where
  abbrev at : ℕ → MachineState
  at i = carried s (length xs) st samples i

  abbrev joined : ℕ → List ℕ
  joined i = xs ++ take i samples

  joined-long : (i : ℕ) → i ≤ length samples → length (joined i) ≡ length xs + i
  joined-long i h = length-append xs (take i samples) ∙ ap (λ (t : ℕ). length xs + t) (length-take-le i samples h)

  joined-more : (i : ℕ) → i < length samples → joined (suc i) ≡ joined i ++ (get_or samples i 0 ∷ [])
  joined-more i h = rw (take-suc samples i 0 h) (sym (append_assoc xs (take i samples) (get_or samples i 0 ∷ [])))

  room_at : (i : ℕ) → enough_work s.rule s.width (length (at i).carry.kept) ≡ true
  room_at i = rw (carried-long s (length xs) st samples i) room

  pub record Kept (i : ℕ) : Type 0 where
    pub keeps : KeptAfter s.rule s (joined i) (at i)
    pub corner_held : Held (at i).carry.corner
    pub bytes_are : finished s (joined i) ≡ finished s xs ++ machine_bytes s (length xs) st samples i

  -- THE THEOREM: the machine emits the bytes that the samples finish, and keeps what they leave
  pub kept : (i : ℕ) → i ≤ length samples → Kept i
  unfolding carried machine_bytes
  kept zero h =
      record { keeps = rw append-nil k; corner_held = small; bytes_are = ap (finished s) (append-nil xs) ∙ sym (append-nil (finished s xs)) }
  kept (suc i) h =
      let I = kept i (omega arith) in
      let e = joined-long i (omega arith) in
      let F =
      follow s.rule s.width s.height s.frames (joined i) (get_or samples i 0) (at i) wide high (octets i) (room_at i)
      I.corner_held I.keeps in
      -- the sample's place, by the samples so far
      let E : machine_step s.rule s.width (length (joined i) / s.width % s.height) (length (joined i) % s.width) (get_or samples i 0)
      (at i)
      ≡ machine_step s.rule s.width ((length xs + i) / s.width % s.height) ((length xs + i) % s.width) (get_or samples i 0) (at i) =
      rw e in
      record {
        keeps =
            rw (joined-more i h) (subst (λ (p : MachineStep). KeptAfter s.rule s (joined i ++ (get_or samples i 0 ∷ [])) p.state) E
            F.keeps);
        corner_held = subst (λ (p : MachineStep). Held p.state.carry.corner) E F.corner_held;
        bytes_are =
            rw (joined-more i h, ← e, F.bytes_are, I.bytes_are)
            (append_assoc (finished s xs) (machine_bytes s (length xs) st samples i)
            (machine_step s.rule s.width (length (joined i) / s.width % s.height) (length (joined i) % s.width) (get_or samples i 0)
            (at i)).bytes);
      }
