-- A ticket read to its end, whatever the method: the question, the claim, and what stands after it.
use Prim.Native.Nat.{ℕ, zero, suc, ◌≤◌}
use native.Mathlib.Omega.{arith}
use mathlib.Core.Path.{◌≡◌, refl, ◌∙◌, ap, subst}
use mathlib.Core.Bool.{Bool, ◌&&◌, cond}
use mathlib.Core.Option.{Option, some}
use mathlib.Core.List.{List, []}
use lib.ListN.{length}
use lib.Dec.{leb, eqb}
use lib.IntN.{ℤ}
use borrow.Author.Tests.{leb-true, le-leb}
use Rattle.lists.proofs.Tests.{and_both}
use Rattle.calculus.specs.Limits.{fact_limit}
use Rattle.calculus.specs.Extended.{Extended}
use Rattle.calculus.specs.Facts.{Question}
use Rattle.calculus.specs.Steps.{Step}
use Rattle.calculus.specs.Walk.{working}
use Rattle.format.specs.Records.{size, kind, next, whole, records, need}
use Rattle.format.specs.Question.{Reading, Stopped, Ended, question, question_form, question_in}
use Rattle.format.specs.Reading.{State, proving, taking, Method, Done, read_steps, claim_at, claim_fault, begin, read_behind}
use Rattle.format.specs.ProperForm.{steps_at, steps_behind, steps_with_child}
use Rattle.format.proofs.Faults.{none_applies}
use Rattle.format.proofs.StepTurns.{at_claim, claim_clean}
use Rattle.format.proofs.Entries.{ReadInRange}
use Rattle.format.proofs.Asked.{headed_in_law, asked_in_range, question→form, form→question}
use Rattle.format.proofs.Behind.{Formed, Taken, child_ok, end_number, Read, done→, →done}

-- reading the question u came to a claim
pub record Claimed (b : List ℕ) (g : Reading) (u : Question) : Type 0 where
  pub last : ℕ
  pub extended : List Extended
  pub position : ℕ
  pub number : ℕ
  pub ended : g ≡ Ended (record { last = last; question = u; extended = extended }) position number
  pub claim_formed : claim_fault b (record { last = last; question = u; extended = extended }) position ≡ 0

-- the claim is "no solution"
abbrev pub claims_none : {b : List ℕ} {g : Reading} {u : Question} → Claimed b g u → Bool
claims_none {b} c = eqb (claim_at b c.position) 1

-- the records after it
abbrev pub behind_claim : {b : List ℕ} {g : Reading} {u : Question} → Claimed b g u → List ℕ
behind_claim {b} c = records b (next b c.position)

-- the number of the first of them
abbrev pub number_behind : {b : List ℕ} {g : Reading} {u : Question} → Claimed b g u → ℕ
number_behind c = suc c.number

-- the state after the claim
abbrev pub started : {B C : Type 0} → Method B C → Bool → State B C
started w x = cond x (proving (working w.root [])) (taking w.root)

abbrev pub claimed→form : {b : List ℕ} {u : Question} → Claimed b (question b) u → Claimed b (question_form b) u
claimed→form {b} c = record { last = c.last; extended = c.extended; position = c.position; number = c.number; ended = question→form b c.ended; claim_formed = c.claim_formed }

abbrev pub form→claimed : {b : List ℕ} {u : Question} → length u.constraints ≤ fact_limit → Claimed b (question_form b) u → Claimed b (question b) u
form→claimed {b} l c =
    record { last = c.last; extended = c.extended; position = c.position; number = c.number; ended = form→question b c.ended l; claim_formed = c.claim_formed }

pub claimed_steps : {b : List ℕ} {u : Question} (c : Claimed b (question_form b) u) → steps_with_child b ≡ steps_at b (behind_claim c)
claimed_steps {b} c = ap (steps_behind b) c.ended

claim_headed : (b : List ℕ) (last at later : ℕ) → need 3 (whole b at) (need 4 (leb 1 last && eqb (kind b at) 5) later) ≡ 0 → 1 ≤ last
claim_headed b last at later e =
    let placed : Bool = leb 1 last && eqb (kind b at) 5 in
    leb-true 1 last (and_both (leb 1 last) (eqb (kind b at) 5) (none_applies 3 placed later (none_applies 2 (whole b at) (need 4 placed later) e).1).0).0

-- the claim stands after a head
pub claimed_headed : {b : List ℕ} {g : Reading} {u : Question} (c : Claimed b g u) → 1 ≤ c.last
claimed_headed {b} c =
    claim_headed b c.last c.position
    (need 5 (eqb (size b c.position) 2) (need 6 (leb 1 (claim_at b c.position) && leb (claim_at b c.position) 2) 0)) c.claim_formed

-- it is 1 or 2
pub claimed_range : {b : List ℕ} {g : Reading} {u : Question} (c : Claimed b g u) → (1 ≤ claim_at b c.position) × (claim_at b c.position ≤ 2)
claimed_range {b} c =
    let at : ℕ = c.position in
    let is_in_range : Bool = leb 1 (claim_at b at) && leb (claim_at b at) 2 in
    let sized : ℕ = need 5 (eqb (size b at) 2) (need 6 is_in_range 0) in
    let placed : Bool = leb 1 c.last && eqb (kind b at) 5 in
    let a4 = none_applies 3 placed sized (none_applies 2 (whole b at) (need 4 placed sized) c.claim_formed).1 in
    let a6 = none_applies 5 is_in_range 0 (none_applies 4 (eqb (size b at) 2) (need 6 is_in_range 0) a4.1).1 in
    let (low, high) = and_both (leb 1 (claim_at b at)) (leb (claim_at b at) 2) a6.0 in
    (leb-true 1 (claim_at b at) low, leb-true (claim_at b at) 2 high)

pub claimed_in_range : {b : List ℕ} {u : Question} → Claimed b (question_form b) u → ReadInRange u
claimed_in_range {b} c = asked_in_range b c.ended (claimed_headed c)

pub claimed_asked : {b : List ℕ} {g : Reading} {u : Question} → Claimed b g u → question_in g ≡ some u
claimed_asked {b} {g} {u} c =
    ap question_in c.ended ∙ headed_in_law (λ s. s.question) (record { last = c.last; question = u; extended = c.extended }) c.position c.number (le-leb 1 c.last (claimed_headed c))

module _ {B C : Type 0} (method : Question → Method B C) (b : List ℕ) where
  abbrev pub ReadBehind : Reading → Question → State B C → ℕ → Type 0
  ReadBehind g u s q = (c : Claimed b g u) × (x : Bool) × (claims_none c ≡ x) × Read (method u) b u (started (method u) x) (number_behind c) (behind_claim c) u s q

  pub ticket→ : (g : Reading) {u : Question} {s : State B C} {q : ℕ} → read_behind method b g ≡ Done u s q → ReadBehind g u s q
  ticket→ (Stopped c r) e = absurd (let z : ◌≡◌ {A = ℕ} 0 1 = cc in omega arith)
  ticket→ (Ended p at r) {u} {s} {q} e = go (claim_fault b p at) refl e
    where
      go : (f : ℕ) → claim_fault b p at ≡ f → at_claim method b p at r f ≡ Done u s q → ReadBehind (Ended p at r) u s q
      go (suc c) k e = absurd (let z : ◌≡◌ {A = ℕ} 0 1 = cc in omega arith)
      go zero k e =
          let h = done→ (method p.question) b p.question (begin (method p.question) (claim_at b at)) (suc r) (records b (next b at)) e in
          subst (λ v. ReadBehind (Ended p at r) v s q) h.same_question (
            record { last = p.last; extended = p.extended; position = at; number = r; ended = refl; claim_formed = k },
            eqb (claim_at b at) 1,
            refl,
            record { steps = h.steps; model = h.model; formed = h.formed; same_question = refl; taken = h.taken; end_is = h.end_is },
          )

  pub →ticket : {g : Reading} {u : Question} {s : State B C} (c : Claimed b g u) (x : Bool) (ts : List (Step × ℕ)) (o : Option (List ℤ)) → claims_none c ≡ x
      → Formed b u (child_ok u (started (method u) x)) (behind_claim c) ts o → Taken (method u) (started (method u) x) ts o s
      → read_behind method b g ≡ Done u s (end_number (number_behind c) ts o)
  →ticket {g} {u} {s} c x ts o e f k =
      ap (read_behind method b) c.ended
      ∙ claim_clean method b (record { last = c.last; question = u; extended = c.extended }) c.position c.number c.claim_formed
      ∙ ap (λ x. read_steps (method u) b u (started (method u) x) (suc c.number) (behind_claim c)) e
      ∙ →done (method u) b u (started (method u) x) (suc c.number) (behind_claim c) ts o f k
