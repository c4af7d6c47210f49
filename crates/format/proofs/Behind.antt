-- Reading after the claim, whatever the method: it is done exactly when the records have their forms and the method takes every step without fault.
use Prim.Native.Nat.{ℕ, zero, suc, ◌+◌, ◌*◌, ◌≤◌}
use native.Mathlib.Omega.{arith}
use native.Mathlib.Decide.{dec_le}
use mathlib.Core.Path.{◌≡◌, refl, sym, ◌∙◌, ap, ap₂, subst}
use mathlib.Core.Logic.{◌≢◌}
use mathlib.Core.Bool.{Bool, true, false, ◌&&◌, cond}
use mathlib.Core.Option.{Option, none, some}
use mathlib.Core.List.{List, [], ◌∷◌}
use lib.ListN.{length, get_or}
use lib.Dec.{eqb}
use lib.IntN.{ℤ}
use borrow.Author.Tests.{eqb-true}
use Rattle.lists.specs.Lists.{All}
use Rattle.lists.proofs.Tests.{and_both}
use Rattle.calculus.specs.Facts.{Question, column_count}
use Rattle.calculus.specs.Steps.{Step}
use Rattle.calculus.specs.Instances.{IsStep}
use Rattle.calculus.specs.Walk.{Walk, working, closed, enter}
use Rattle.calculus.specs.Limits.{value_limit}
use Rattle.format.specs.Records.{size, kind, next, whole, need, records}
use Rattle.format.specs.StepForms.{rule, child_field, length_fits, operands_in_range, step_at, child_in_range}
use Rattle.format.specs.Reading.{State, proving, taking, modelled, Method, stepped, step_with_child, step_fault, model_at, model_fault}
use Rattle.format.specs.Reading.{body_fault, last_fault, fault, advanced, Ticket, Faulty, Done, read_steps}
use Rattle.format.specs.ProperForm.{steps_at}
use Rattle.format.specs.Fields.{all_within}
use Rattle.format.proofs.Records.{records_none, records_more}
use Rattle.format.proofs.Faults.{another, none_applies, passed}
use Rattle.format.proofs.Decoded.{step_in_range}

-- ---- the forms of the records

pub record EndAt (b : List ℕ) (at : ℕ) : Type 0 where
  pub is_whole : whole b at ≡ true
  pub is_end : kind b at ≡ 8
  pub last : eqb (next b at) (length b) ≡ true
  pub empty : eqb (size b at) 0 ≡ true

pub record ModelAt (b : List ℕ) (u : Question) (at : ℕ) (m : List ℤ) : Type 0 where
  pub is_whole : whole b at ≡ true
  pub is_model : kind b at ≡ 7
  pub fits : eqb (size b at) (4 * column_count u) ≡ true
  pub values : all_within value_limit (model_at b u (at + 6)) ≡ true
  pub holds : m ≡ model_at b u (at + 6)

-- a step with its child field, which passes a test
pub record StepAt (b : List ℕ) (u : Question) (ok : Step → ℕ → Bool) (at : ℕ) (t : Step × ℕ) : Type 0 where
  pub is_whole : whole b at ≡ true
  pub is_step : kind b at ≡ 6
  pub fits : length_fits b (at + 6) (size b at) ≡ true
  pub operands : operands_in_range b u.p (column_count u) (rule b (at + 6)) (at + 6) (size b at) ≡ true
  pub child_ok_law : ok (step_at b (at + 6) (size b at)) (child_field b (at + 6)) ≡ true
  pub holds : t ≡ step_with_child b at

-- the records at these positions are the steps ts, the model where there is one, and an end
unfoldable pub Formed : List ℕ → Question → (Step → ℕ → Bool) → List ℕ → List (Step × ℕ) → Option (List ℤ) → Type 0
Formed b u ok [] ts o = ⊥
Formed b u ok (at ∷ ats) [] none = EndAt b at
Formed b u ok (at ∷ ats) [] (some m) = ModelAt b u at m × Formed b u ok ats [] none
Formed b u ok (at ∷ ats) (t ∷ ts) o = StepAt b u ok at t × Formed b u ok ats ts o

not_six : (b : List ℕ) (at : ℕ) (ats : List ℕ) (k : ℕ) → kind b at ≡ k → eqb k 6 ≡ false → steps_at b (at ∷ ats) ≡ []
unfolding steps_at
not_six b at ats k e f =
    ap (λ x. elim x as (λ _. List (Step × ℕ)) [ false ↦ [] | true ↦ step_with_child b at ∷ steps_at b ats ])
    (ap (λ z. eqb z 6) e ∙ f)

-- they are the steps that the bytes hold
pub formed_steps : (b : List ℕ) (u : Question) (ok : Step → ℕ → Bool) (ats : List ℕ) (ts : List (Step × ℕ)) (o : Option (List ℤ))
    → Formed b u ok ats ts o
    → steps_at b ats ≡ ts
unfolding Formed steps_at
formed_steps b u ok [] ts o h = absurd h
formed_steps b u ok (at ∷ ats) [] none h = not_six b at ats 8 h.is_end refl
formed_steps b u ok (at ∷ ats) [] (some m) h = not_six b at ats 7 h.0.is_model refl
formed_steps b u ok (at ∷ ats) (t ∷ ts) o (h, hs) =
    ap (λ x. elim x as (λ _. List (Step × ℕ)) [ false ↦ [] | true ↦ step_with_child b at ∷ steps_at b ats ])
    (ap (λ z. eqb z 6) h.is_step)
    ∙ ap₂ (λ x xs. x ∷ xs) (sym h.holds) (formed_steps b u ok ats ts o hs)

-- each is in range
pub formed_in_range : (b : List ℕ) (u : Question) (ok : Step → ℕ → Bool) (ats : List ℕ) (ts : List (Step × ℕ)) (o : Option (List ℤ))
    → Formed b u ok ats ts o
    → All (λ t. IsStep u t.0) ts
unfolding Formed
formed_in_range b u ok [] ts o h = absurd h
formed_in_range b u ok (at ∷ ats) [] o h = tt
formed_in_range b u ok (at ∷ ats) (t ∷ ts) o (h, hs) = (
  subst (λ (s : Step × ℕ). IsStep u s.0) (sym h.holds) (step_in_range b u (at + 6) (size b at) h.fits h.operands),
  formed_in_range b u ok ats ts o hs,
)

-- and its child field passes the test
pub formed_children : (b : List ℕ) (u : Question) (ok : Step → ℕ → Bool) (ats : List ℕ) (ts : List (Step × ℕ)) (o : Option (List ℤ))
    → Formed b u ok ats ts o
    → All (λ t. ok t.0 t.1 ≡ true) ts
unfolding Formed
formed_children b u ok [] ts o h = absurd h
formed_children b u ok (at ∷ ats) [] o h = tt
formed_children b u ok (at ∷ ats) (t ∷ ts) o (h, hs) =
    (subst (λ (s : Step × ℕ). ok s.0 s.1 ≡ true) (sym h.holds) h.child_ok_law, formed_children b u ok ats ts o hs)

-- the model is the one after the steps
pub formed_model : (b : List ℕ) (u : Question) (ok : Step → ℕ → Bool) (ats : List ℕ) (ts : List (Step × ℕ)) {m : List ℤ}
    → Formed b u ok ats ts (some m)
    → m ≡ model_at b u (get_or ats (length ts) 0 + 6)
unfolding Formed
formed_model b u ok [] ts h = absurd h
formed_model b u ok (at ∷ ats) [] h = h.0.holds
formed_model b u ok (at ∷ ats) (t ∷ ts) h = formed_model b u ok ats ts h.1

-- and within its range
pub formed_within : (b : List ℕ) (u : Question) (ok : Step → ℕ → Bool) (ats : List ℕ) (ts : List (Step × ℕ)) (m : List ℤ)
    → Formed b u ok ats ts (some m)
    → all_within value_limit m ≡ true
unfolding Formed
formed_within b u ok [] ts m h = absurd h
formed_within b u ok (at ∷ ats) [] m h = ap (all_within value_limit) h.0.holds ∙ h.0.values
formed_within b u ok (at ∷ ats) (t ∷ ts) m h = formed_within b u ok ats ts m h.1

-- from a position on, every record is a step, a model or an end
module _ (b : List ℕ) (u : Question) (ok : Step → ℕ → Bool) where
  abbrev Kinds : List ℕ → Type 0
  Kinds ats = All (λ i. (6 ≤ kind b i) × (kind b i ≤ 8)) ats

  -- there is a first one
  pub first_formed : (ts : List (Step × ℕ)) (o : Option (List ℤ)) (at : ℕ) → Formed b u ok (records b at) ts o
      → (records b at ≡ at ∷ records b (next b at)) × Formed b u ok (at ∷ records b (next b at)) ts o
  unfolding Formed
  first_formed ts o at h = go (dec_le (at + 6) (length b))
    where
      go : Dec (at + 6 ≤ length b) → (records b at ≡ at ∷ records b (next b at)) × Formed b u ok (at ∷ records b (next b at)) ts o
      go (yes g) = (records_more b at g, subst (λ l. Formed b u ok l ts o) (records_more b at g) h)
      go (no g) = absurd (subst (λ l. Formed b u ok l ts o) (records_none b at (omega arith)) h)

  end_kinds : (at : ℕ) → Formed b u ok (records b at) [] none → Kinds (records b at)
  unfolding Formed
  end_kinds at h =
      let (e, end) = first_formed [] none at h in
      let behind : records b (next b at) ≡ [] = records_none b (next b at) (omega (arith, eqb-true (next b at) (length b) end.last)) in
      subst Kinds (sym e) ((omega (arith, end.is_end), omega (arith, end.is_end)), subst Kinds (sym behind) tt)

  pub formed_kinds : (ts : List (Step × ℕ)) (o : Option (List ℤ)) (at : ℕ) → Formed b u ok (records b at) ts o → Kinds (records b at)
  unfolding Formed
  formed_kinds [] none at h = end_kinds at h
  formed_kinds [] (some m) at h =
      let (e, (model, rest)) = first_formed [] (some m) at h in
      subst Kinds (sym e) ((omega (arith, model.is_model), omega (arith, model.is_model)), end_kinds (next b at) rest)
  formed_kinds (t ∷ ts) o at h =
      let (e, (step, rest)) = first_formed (t ∷ ts) o at h in
      subst Kinds (sym e) ((omega (arith, step.is_step), omega (arith, step.is_step)), formed_kinds ts o (next b at) rest)

-- ---- the method's part

-- "Under claim 1 the child field is 0", "Under claim 2 it is the child taken"
abbrev pub child_ok : {B C : Type 0} → Question → State B C → Step → ℕ → Bool
child_ok u (proving k) st c = eqb c 0
child_ok u (taking br) st c = child_in_range u.n st c
child_ok u (modelled br m) st c = child_in_range u.n st c

-- from the state s the method takes the steps and the model, where there is one, to the state s'
unfoldable pub Taken : {B C : Type 0} → Method B C → State B C → List (Step × ℕ) → Option (List ℤ) → State B C → Type 0
Taken w s [] none s' = s ≡ s'
Taken w (proving k) [] (some m) s' = ⊥
Taken w (taking br) [] (some m) s' = (w.leaf_fault br m ≡ 0) × (modelled br m ≡ s')
Taken w (modelled br v) [] (some m) s' = ⊥
Taken w (proving (working br ss)) (t ∷ ts) o s' = (w.split_fault br ss t.0 ≡ 0) × Taken w (stepped w (proving (working br ss)) t) ts o s'
Taken w (proving closed) (t ∷ ts) o s' = ⊥
Taken w (taking br) (t ∷ ts) o s' = (w.taken_fault br t.0 t.1 ≡ 0) × Taken w (stepped w (taking br) t) ts o s'
Taken w (modelled br v) (t ∷ ts) o s' = ⊥

-- claim 1 ends with the walk, after no model
pub proving_stays : {B C : Type 0} (w : Method B C) (k : Walk B C) (ts : List (Step × ℕ)) (o : Option (List ℤ)) {s' : State B C}
    → Taken w (proving k) ts o s'
    → ((k' : Walk B C) × (s' ≡ proving k')) × (o ≡ none)
unfolding Taken
proving_stays w k [] none h = ((k, sym h), refl)
proving_stays w k [] (some m) h = absurd h
proving_stays w (working br ss) (t ∷ ts) o h = proving_stays w (enter w.add br (w.children br t.0) ss) ts o h.1
proving_stays w closed (t ∷ ts) o h = absurd h

pub proving_no_model : {B C : Type 0} (w : Method B C) (k : Walk B C) (ts : List (Step × ℕ)) (o : Option (List ℤ)) (l : B) (m : List ℤ)
    → Taken w (proving k) ts o (modelled l m)
    → ⊥
proving_no_model w k ts o l m h = let ((k', z), _) = proving_stays w k ts o h in let z : ◌≡◌ {A = ℕ} 0 1 = cc in omega arith

-- claim 2 ends with the branch, or after the model
pub taking_no_walk : {B C : Type 0} (w : Method B C) (br : B) (ts : List (Step × ℕ)) (o : Option (List ℤ)) (k : Walk B C)
    → Taken w (taking br) ts o (proving k)
    → ⊥
unfolding Taken
taking_no_walk w br [] none k h = let z : ◌≡◌ {A = ℕ} 0 1 = cc in omega arith
taking_no_walk w br [] (some m) k h = let z : ◌≡◌ {A = ℕ} 0 1 = cc h.1 in omega arith
taking_no_walk w br (t ∷ ts) o k h = taking_no_walk w (w.taken br t.0 t.1) ts o k h.1

pub taking_models : {B C : Type 0} (w : Method B C) (br : B) (ts : List (Step × ℕ)) (o : Option (List ℤ)) (l : B) (m : List ℤ)
    → Taken w (taking br) ts o (modelled l m)
    → o ≡ some m
unfolding Taken
taking_models w br [] none l m h = absurd (let z : ◌≡◌ {A = ℕ} 0 1 = cc in omega arith)
taking_models w br [] (some v) l m h = cc h.1
taking_models w br (t ∷ ts) o l m h = taking_models w (w.taken br t.0 t.1) ts o l m h.1

pub taking_unmodelled : {B C : Type 0} (w : Method B C) (br : B) (ts : List (Step × ℕ)) (o : Option (List ℤ)) (l : B)
    → Taken w (taking br) ts o (taking l)
    → o ≡ none
unfolding Taken
taking_unmodelled w br [] none l h = refl
taking_unmodelled w br [] (some m) l h = absurd (let z : ◌≡◌ {A = ℕ} 0 1 = cc h.1 in omega arith)
taking_unmodelled w br (t ∷ ts) o l h = taking_unmodelled w (w.taken br t.0 t.1) ts o l h.1

-- the number of the end record after steps and a model, where there is one, that begin with record r
unfoldable pub end_number : ℕ → List (Step × ℕ) → Option (List ℤ) → ℕ
end_number r [] none = r
end_number r [] (some m) = suc r
end_number r (t ∷ ts) o = end_number (suc r) ts o

pub record Read {B C : Type 0} (w : Method B C) (b : List ℕ) (u : Question) (s : State B C) (r : ℕ) (ats : List ℕ) (v : Question) (s' : State B C) (q : ℕ) : Type 0 where
  pub steps : List (Step × ℕ)
  pub model : Option (List ℤ)
  pub formed : Formed b u (child_ok u s) ats steps model
  pub same_question : u ≡ v
  pub taken : Taken w s steps model s'
  pub end_is : q ≡ end_number r steps model

-- a number that is none of those that a record's form gives after the claim
pub record NotOfForm (c : ℕ) : Type 0 where
  pub not_3 : 3 ≢ c
  pub not_4 : 4 ≢ c
  pub not_5 : 5 ≢ c
  pub not_6 : 6 ≢ c

pub no_number : NotOfForm 0
no_number = record { not_3 = λ e. omega arith; not_4 = λ e. omega arith; not_5 = λ e. omega arith; not_6 = λ e. omega arith }

module _ {B C : Type 0} (w : Method B C) (b : List ℕ) (u : Question) where
  -- one turn, by the record's fault and by its being an end
  abbrev pub turn : State B C → ℕ → ℕ → List ℕ → ℕ → Bool → Ticket B C
  turn s r at ats f x = elim f as (λ _. Ticket B C) [
    | suc c ↦ Faulty (suc c) r
    | zero ↦ elim x as (λ _. Ticket B C) [ true ↦ Done u s r | false ↦ read_steps w b u (advanced w b u s at) (suc r) ats ]
  ]

  -- ---- a number that is not one of the form's, 0 for none: the record has its form, and the number is the method's

  module _ {c : ℕ} (n : NotOfForm c) where
    pub end→ : (s : State B C) (at : ℕ) → eqb (kind b at) 8 ≡ true → fault w b u s at ≡ c → EndAt b at × (c ≡ 0)
    unfolding fault
    end→ s at k e =
        let body : ℕ = body_fault w b u s (kind b at) (at + 6) (size b at) in
        let a3 = another 3 (whole b at) (cond (eqb (kind b at) 8) (last_fault b at) body) n.not_3 e in
        let z : last_fault b at ≡ c = subst (λ x. cond x (last_fault b at) body ≡ c) k a3.1 in
        let a4 = another 4 (eqb (next b at) (length b)) (need 5 (eqb (size b at) 0) 0) n.not_4 z in
        let a5 = another 5 (eqb (size b at) 0) 0 n.not_5 a4.1 in
        (record { is_whole = a3.0; is_end = eqb-true _ _ k; last = a4.0; empty = a5.0 }, sym a5.1)

    pub body→ : (s : State B C) (at : ℕ)
        → eqb (kind b at) 8 ≡ false
        → fault w b u s at ≡ c
        → (whole b at ≡ true) × (body_fault w b u s (kind b at) (at + 6) (size b at) ≡ c)
    unfolding fault
    body→ s at k e =
        let body : ℕ = body_fault w b u s (kind b at) (at + 6) (size b at) in
        let a3 = another 3 (whole b at) (cond (eqb (kind b at) 8) (last_fault b at) body) n.not_3 e in
        (a3.0, subst (λ x. cond x (last_fault b at) body ≡ c) k a3.1)

    pub step→ : (ok : Step → ℕ → Bool) (at later : ℕ) → whole b at ≡ true → eqb (kind b at) 6 ≡ true
        → step_fault b u (ok (step_at b (at + 6) (size b at)) (child_field b (at + 6))) later (at + 6) (size b at) ≡ c
        → StepAt b u ok at (step_with_child b at) × (later ≡ c)
    step→ ok at later h k e =
        let in_range : Bool = operands_in_range b u.p (column_count u) (rule b (at + 6)) (at + 6) (size b at) in
        let child_fits : Bool = ok (step_at b (at + 6) (size b at)) (child_field b (at + 6)) in
        let a5 = another 5 (length_fits b (at + 6) (size b at)) (need 6 (in_range && child_fits) later) n.not_5 e in
        let a6 = another 6 (in_range && child_fits) later n.not_6 a5.1 in
        let a = and_both in_range child_fits a6.0 in
        (record { is_whole = h; is_step = eqb-true _ _ k; fits = a5.0; operands = a.0; child_ok_law = a.1; holds = refl }, a6.1)

    pub model→ : (at later : ℕ)
        → whole b at ≡ true
        → need 4 (eqb (kind b at) 7) (model_fault b u later (at + 6) (size b at)) ≡ c
        → ModelAt b u at (model_at b u (at + 6)) × (later ≡ c)
    model→ at later h e =
        let a4 = another 4 (eqb (kind b at) 7) (model_fault b u later (at + 6) (size b at)) n.not_4 e in
        let a5 = another 5 (eqb (size b at) (4 * column_count u)) (need 6 (all_within value_limit (model_at b u (at + 6))) later) n.not_5 a4.1 in
        let a6 = another 6 (all_within value_limit (model_at b u (at + 6))) later n.not_6 a5.1 in
        (record { is_whole = h; is_model = eqb-true _ _ a4.0; fits = a5.0; values = a6.0; holds = refl }, a6.1)

  -- after the model only the end stands
  only_end : (br : B) (m : List ℤ) (s' : State B C) (ok : Step → ℕ → Bool) (r : ℕ) (ats : List ℕ) (ts : List (Step × ℕ)) (o : Option (List ℤ))
      → Formed b u ok ats ts o
      → Taken w (modelled br m) ts o s'
      → Formed b u ok ats [] none × Taken w (modelled br m) [] none s' × (end_number r ts o ≡ r)
  unfolding Taken end_number
  only_end br m s' ok r ats [] none f k = (f, k, refl)
  only_end br m s' ok r ats [] (some v) f k = absurd k
  only_end br m s' ok r ats (t ∷ ts) o f k = absurd k

  pub done→ : (s : State B C) (r : ℕ) (ats : List ℕ) {v : Question} {s' : State B C} {q : ℕ} → read_steps w b u s r ats ≡ Done v s' q → Read w b u s r ats v s' q
  unfolding read_steps advanced Formed Taken end_number
  done→ s r [] e = absurd (let z : ◌≡◌ {A = ℕ} 0 1 = cc in omega arith)
  done→ s r (at ∷ ats) {v} {s'} {q} e = turned s (fault w b u s at) (eqb (kind b at) 8) refl refl e (λ t p. done→ t (suc r) ats p)
    where
      On : Type 0
      On = (t : State B C) → read_steps w b u t (suc r) ats ≡ Done v s' q → Read w b u t (suc r) ats v s' q

      taken_or_model : (br : B) (y : Bool) → eqb (kind b at) 6 ≡ y → whole b at ≡ true
          → cond y (step_fault b u (child_in_range u.n (step_at b (at + 6) (size b at)) (child_field b (at + 6)))
          (w.taken_fault br (step_at b (at + 6) (size b at)) (child_field b (at + 6))) (at + 6) (size b at))
          (need 4 (eqb (kind b at) 7) (model_fault b u (w.leaf_fault br (model_at b u (at + 6))) (at + 6) (size b at))) ≡ 0
          → read_steps w b u (cond y (stepped w (taking br) (step_with_child b at)) (modelled br (model_at b u (at + 6))))
          (suc r) ats
          ≡ Done v s' q
          → On → Read w b u (taking br) r (at ∷ ats) v s' q
      taken_or_model br true y h f e ih =
          let (a, l) = step→ no_number (child_in_range u.n) at (w.taken_fault br (step_at b (at + 6) (size b at)) (child_field b (at + 6))) h y f in
          let g = ih (stepped w (taking br) (step_with_child b at)) e in
          record {
            steps = step_with_child b at ∷ g.steps;
            model = g.model;
            formed = (a, g.formed);
            same_question = g.same_question;
            taken = (l, g.taken);
            end_is = g.end_is;
          }
      taken_or_model br false y h f e ih =
          let (a, l) = model→ no_number at (w.leaf_fault br (model_at b u (at + 6))) h f in
          let g = ih (modelled br (model_at b u (at + 6))) e in
          let (c, n, i) = only_end br (model_at b u (at + 6)) s' (child_in_range u.n) (suc r) ats g.steps g.model g.formed g.taken in
          record { steps = []; model = some (model_at b u (at + 6)); formed = (a, c); same_question = g.same_question; taken = (l, n); end_is = g.end_is ∙ i }

      turned : (s : State B C) (f : ℕ) (x : Bool)
          → fault w b u s at ≡ f
          → eqb (kind b at) 8 ≡ x
          → turn s r at ats f x ≡ Done v s' q
          → On
          → Read w b u s r (at ∷ ats) v s' q
      turned s (suc c) x p z e ih = absurd (let one : ◌≡◌ {A = ℕ} 0 1 = cc in omega arith)
      turned s zero true p z e ih = record { steps = []; model = none; formed = (end→ no_number s at z p).0; same_question = cc; taken = cc; end_is = cc }
      turned (proving (working br ss)) zero false p z e ih =
          let (h, f) = body→ no_number (proving (working br ss)) at z p in
          let a4 =
          none_applies 3 (eqb (kind b at) 6)
          (step_fault b u (eqb (child_field b (at + 6)) 0) (w.split_fault br ss (step_at b (at + 6) (size b at))) (at + 6) (size b at)) f in
          let (a, l) = step→ no_number (λ st c. eqb c 0) at (w.split_fault br ss (step_at b (at + 6) (size b at))) h a4.0 a4.1 in
          let g = ih (stepped w (proving (working br ss)) (step_with_child b at)) e in
          record {
            steps = step_with_child b at ∷ g.steps;
            model = g.model;
            formed = (a, g.formed);
            same_question = g.same_question;
            taken = (l, g.taken);
            end_is = g.end_is;
          }
      turned (proving closed) zero false p z e ih = absurd (let four : ◌≡◌ {A = ℕ} 4 0 = (body→ no_number (proving closed) at z p).1 in omega arith)
      turned (taking br) zero false p z e ih = let (h, f) = body→ no_number (taking br) at z p in taken_or_model br (eqb (kind b at) 6) refl h f e ih
      turned (modelled br m) zero false p z e ih = absurd (let four : ◌≡◌ {A = ℕ} 4 0 = (body→ no_number (modelled br m) at z p).1 in omega arith)

  -- ---- and the other way: where the records have their forms, the fault is the method's

  pub end_fault : (s : State B C) (at : ℕ) → EndAt b at → fault w b u s at ≡ 0
  unfolding fault
  end_fault s at h =
      passed 3 (whole b at) (cond (eqb (kind b at) 8) (last_fault b at) (body_fault w b u s (kind b at) (at + 6) (size b at))) h.is_whole
      ∙ ap (λ k. cond (eqb k 8) (last_fault b at) (body_fault w b u s k (at + 6) (size b at))) h.is_end
      ∙ passed 4 (eqb (next b at) (length b)) (need 5 (eqb (size b at) 0) 0) h.last
      ∙ passed 5 (eqb (size b at) 0) 0 h.empty

  pub body_fault_law : (s : State B C) (at k : ℕ) → whole b at ≡ true → kind b at ≡ k → eqb k 8 ≡ false → fault w b u s at ≡ body_fault w b u s k (at + 6) (size b at)
  unfolding fault
  body_fault_law s at k h e f =
      passed 3 (whole b at) (cond (eqb (kind b at) 8) (last_fault b at) (body_fault w b u s (kind b at) (at + 6) (size b at))) h
      ∙ ap (λ k. cond (eqb k 8) (last_fault b at) (body_fault w b u s k (at + 6) (size b at))) e
      ∙ ap (λ x. cond x (last_fault b at) (body_fault w b u s k (at + 6) (size b at))) f

  pub step_fault_law : (ok : Step → ℕ → Bool) (at later : ℕ) {t : Step × ℕ}
      → StepAt b u ok at t
      → step_fault b u (ok (step_at b (at + 6) (size b at)) (child_field b (at + 6))) later (at + 6) (size b at) ≡ later
  step_fault_law ok at later h =
      let in_range : Bool = operands_in_range b u.p (column_count u) (rule b (at + 6)) (at + 6) (size b at) in
      let child_fits : Bool = ok (step_at b (at + 6) (size b at)) (child_field b (at + 6)) in
      passed 5 (length_fits b (at + 6) (size b at)) (need 6 (in_range && child_fits) later) h.fits
      ∙ passed 6 (in_range && child_fits) later (ap₂ ◌&&◌ h.operands h.child_ok_law)

  pub model_fault_law : (at later : ℕ) {m : List ℤ} → ModelAt b u at m → model_fault b u later (at + 6) (size b at) ≡ later
  model_fault_law at later h =
      passed 5 (eqb (size b at) (4 * column_count u)) (need 6 (all_within value_limit (model_at b u (at + 6))) later) h.fits
      ∙ passed 6 (all_within value_limit (model_at b u (at + 6))) later h.values

  pub →done : (s : State B C) (r : ℕ) (ats : List ℕ) (ts : List (Step × ℕ)) (o : Option (List ℤ)) {s' : State B C}
      → Formed b u (child_ok u s) ats ts o
      → Taken w s ts o s'
      → read_steps w b u s r ats ≡ Done u s' (end_number r ts o)
  unfolding read_steps advanced Formed Taken end_number
  →done s r [] ts o h k = absurd h
  →done s r (at ∷ ats) [] none h e = ap₂ (turn s r at ats) (end_fault s at h) (ap (λ k. eqb k 8) h.is_end) ∙ ap (λ x. Done u x r) e
  →done (proving k) r (at ∷ ats) [] (some m) h k' = absurd k'
  →done (taking br) r (at ∷ ats) [] (some m) (h, hs) (f, k) =
      ap₂ (turn (taking br) r at ats)
      (body_fault_law (taking br) at 7 h.is_whole h.is_model refl
      ∙ model_fault_law at (w.leaf_fault br (model_at b u (at + 6))) h
      ∙ ap (w.leaf_fault br) (sym h.holds)
      ∙ f)
      (ap (λ k. eqb k 8) h.is_model)
      ∙ ap (λ k. read_steps w b u
      (cond (eqb k 6) (stepped w (taking br) (step_with_child b at)) (modelled br (model_at b u (at + 6)))) (suc r) ats)
      h.is_model
      ∙ ap (λ m. read_steps w b u (modelled br m) (suc r) ats) (sym h.holds)
      ∙ →done (modelled br m) (suc r) ats [] none hs k
  →done (modelled br v) r (at ∷ ats) [] (some m) h k = absurd k
  →done (proving (working br ss)) r (at ∷ ats) (t ∷ ts) o (h, hs) (f, k) =
      ap₂ (turn (proving (working br ss)) r at ats)
      (body_fault_law (proving (working br ss)) at 6 h.is_whole h.is_step refl
      ∙ step_fault_law (λ st c. eqb c 0) at (w.split_fault br ss (step_at b (at + 6) (size b at))) h
      ∙ ap (λ (t : Step × ℕ). w.split_fault br ss t.0) (sym h.holds) ∙ f)
      (ap (λ k. eqb k 8) h.is_step)
      ∙ ap (λ (t : Step × ℕ). read_steps w b u (stepped w (proving (working br ss)) t) (suc r) ats) (sym h.holds)
      ∙ →done (stepped w (proving (working br ss)) t) (suc r) ats ts o hs k
  →done (proving closed) r (at ∷ ats) (t ∷ ts) o h k = absurd k
  →done (taking br) r (at ∷ ats) (t ∷ ts) o (h, hs) (f, k) =
      ap₂ (turn (taking br) r at ats)
      (body_fault_law (taking br) at 6 h.is_whole h.is_step refl
      ∙ step_fault_law (child_in_range u.n) at (w.taken_fault br (step_at b (at + 6) (size b at)) (child_field b (at + 6))) h
      ∙ ap (λ (t : Step × ℕ). w.taken_fault br t.0 t.1) (sym h.holds) ∙ f)
      (ap (λ k. eqb k 8) h.is_step)
      ∙ ap (λ k. read_steps w b u
      (cond (eqb k 6) (stepped w (taking br) (step_with_child b at)) (modelled br (model_at b u (at + 6)))) (suc r) ats)
      h.is_step
      ∙ ap (λ (t : Step × ℕ). read_steps w b u (stepped w (taking br) t) (suc r) ats) (sym h.holds)
      ∙ →done (stepped w (taking br) t) (suc r) ats ts o hs k
  →done (modelled br v) r (at ∷ ats) (t ∷ ts) o h k = absurd k
