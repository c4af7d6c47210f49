-- Th6: in proper form, within the limits and every step proper, strings are given exactly when demand 3 accepts the leaf.
use Prim.Native.Nat.{ℕ, ◌+◌, ◌≤◌}
use native.Mathlib.Omega.{arith}
use mathlib.Core.Path.{◌≡◌, sym, ◌∙◌, ap, ap₂, subst}
use mathlib.Core.Bool.{true, false}
use mathlib.Core.Option.{some}
use mathlib.Core.List.{List, [], ◌∷◌, ◌++◌}
use lib.ListN.{length, get_or, take}
use lib.IntN.{ℤ}
use Rattle.lists.proofs.Every.{every_take}
use Rattle.calculus.specs.Limits.{value_limit, fact_limit}
use Rattle.calculus.specs.Facts.{Question, Fact, Branch, column_count}
use Rattle.calculus.specs.Steps.{Step}
use Rattle.calculus.specs.Rules.{RuleSet, children}
use Rattle.calculus.specs.Walk.{working, closed}
use Rattle.calculus.specs.Meaning.{Assignment}
use Rattle.calculus.proofs.Limits.{limits→path}
use Rattle.calculus.proofs.Walks.{FollowedBy, Followed, path→followed, leaf_in_range}
use Rattle.format.specs.Fields.{within, all_within}
use Rattle.format.specs.Records.{next, records}
use Rattle.format.specs.Reading.{State, proving, taking, modelled, model_at}
use Rattle.format.specs.Checking.{Strings, verdict_by, verdict, checker_by, leaf_fault, accepted, answer_of}
use Rattle.format.specs.ProperForm.{by_shape, ProperStrings, steps_with_child}
use Rattle.format.specs.Demands.{Th6}
use Rattle.format.proofs.Fields.{length_i32s}
use Rattle.format.proofs.Behind.{Taken, formed_model, formed_within, proving_no_model, taking_models}
use Rattle.format.proofs.Claimed.{behind_claim, claimed_asked, claimed_in_range}
use Rattle.format.proofs.Tickets.{child_fits, Holding, steps_in_range, ReadAs, proper→, verdict→, →verdict}
use Rattle.format.proofs.Checker.{taken→reached, followed→taken}
use Rattle.format.proofs.Agreements.{agreements}

-- ---- the model and the leaf are determined by the bytes

model_is : {b : List ℕ} {u : Question} {m : List ℤ} (h : Holding b u false (some m))
    → m ≡ model_at b u (get_or (behind_claim h.claimed) (length (steps_with_child b)) 0 + 6)
model_is {b} {u} h = formed_model b u (child_fits u false) (behind_claim h.claimed) (steps_with_child b) h.formed

-- a value for each column
pub model_size : {b : List ℕ} {u : Question} {m : List ℤ} → Holding b u false (some m) → length m ≡ column_count u
model_size {b} {u} h = ap length (model_is h) ∙ length_i32s b (get_or (behind_claim h.claimed) (length (steps_with_child b)) 0 + 6) (column_count u)

-- the integers lie within ±100,000,000
pub integers_within : {b : List ℕ} {u : Question} {m : List ℤ} → Holding b u false (some m) → all_within value_limit (take u.q m) ≡ true
unfolding all_within
integers_within {b} {u} {m} h =
    every_take (within value_limit) m u.q (formed_within b u (child_fits u false) (behind_claim h.claimed) (steps_with_child b) m h.formed)

one_model : {b : List ℕ} {u : Question} {m v : List ℤ} → Holding b u false (some m) → Holding b u false (some v) → m ≡ v
one_model {b} {u} h g =
    let same : h.claimed.position ≡ g.claimed.position = cc (h.claimed.ended, g.claimed.ended) in
    model_is h ∙ ap (λ at. model_at b u (get_or (records b (next b at)) (length (steps_with_child b)) 0 + 6)) same ∙ sym (model_is g)

-- whatever the rules
pub one_leaf : (rules : RuleSet) (u : Question) (b l k : Branch) (ts : List (Step × ℕ)) → FollowedBy rules u b ts l → FollowedBy rules u b ts k → l ≡ k
unfolding FollowedBy
one_leaf rules u b l k [] h g = sym h ∙ g
one_leaf rules u b l k (t ∷ ts) (c, e, h) (d, f, g) =
    let same : d ≡ c = cc in
    one_leaf rules u (b ++ c) l k ts h (subst (λ x. FollowedBy rules u (b ++ x) ts k) same g)

-- ---- what checking accepts

-- the ticket holds steps, the model and the end, and checking comes to a leaf without fault
pub record Given (rules : RuleSet) (b : List ℕ) (u : Question) (a : Assignment) : Type 0 where
  pub leaf : Branch
  pub model : List ℤ
  pub held : Holding b u false (some model)
  pub few : length u.constraints ≤ fact_limit
  pub taken : Taken (checker_by rules u) (taking u.constraints) (steps_with_child b) (some model) (modelled leaf model)
  pub followed : FollowedBy rules u u.constraints (steps_with_child b) leaf
  pub no_fault : leaf_fault u leaf model ≡ 0
  pub gives : a ≡ answer_of u leaf model

-- whatever the rules
pub accepted→given : (rules : RuleSet) (work answer : ℕ) (b : List ℕ) (a : Assignment) → verdict_by rules work answer b ≡ Strings a → (u : Question) × Given rules b u a
accepted→given rules work answer b a e =
    let v = verdict→ rules work answer b (Strings a) (λ c r z. let z : ◌≡◌ {A = ℕ} 0 1 = cc in omega arith) e in
    (v.asked, by_claim v.asked v.state v.number v.read v.few v.gives)
  where
    by_claim : (u : Question) (s : State Branch (List Fact)) (q : ℕ)
        → ReadAs (checker_by rules) b u s
        → length u.constraints ≤ fact_limit
        → accepted u s q ≡ Strings a
        → Given rules b u a
    by_claim u (modelled leaf m) q (false, o, h, k) few f =
        let behind = taking_models (checker_by rules u) u.constraints (steps_with_child b) o leaf m k in
        let (followed, no_fault) = taken→reached rules u u.constraints leaf m (steps_with_child b) o k in
        record {
          leaf = leaf;
          model = m;
          held = subst (Holding b u false) behind h;
          few = few;
          taken = subst (λ o. Taken (checker_by rules u) (taking u.constraints) (steps_with_child b) o (modelled leaf m)) behind k;
          followed = followed;
          no_fault = no_fault;
          gives = cc;
        }
    by_claim u (modelled leaf m) q (true, o, h, k) few f =
        absurd (proving_no_model (checker_by rules u) (working u.constraints []) (steps_with_child b) o leaf m k)
    by_claim u (proving (working br ss)) q r few f = absurd (let z : ◌≡◌ {A = ℕ} 0 1 = cc in omega arith)
    by_claim u (proving closed) q r few f = absurd (let z : ◌≡◌ {A = ℕ} 0 1 = cc in omega arith)
    by_claim u (taking br) q r few f = absurd (let z : ◌≡◌ {A = ℕ} 0 1 = cc in omega arith)

-- ---- proper form under claim 2

proper_model : (b : List ℕ) (u : Question) (m : List ℤ) → ProperStrings b u m → Holding b u false (some m)
proper_model b u m (k, q, e) = by_claim (proper→ b u e)
  where
    by_claim : ReadAs by_shape b u (modelled k m) → Holding b u false (some m)
    by_claim (true, o, h, r) = absurd (proving_no_model (by_shape u) (working (length u.constraints) []) (steps_with_child b) o k m r)
    by_claim (false, o, h, r) = subst (Holding b u false) (taking_models (by_shape u) (length u.constraints) (steps_with_child b) o k m r) h

pub leaves_exact : Th6
leaves_exact work answer t u m leaf big proper limits path =
    let h = proper_model t u m proper in
    let q = claimed_in_range h.claimed in
    let followed = path→followed u q.head (steps_with_child t) u.constraints leaf q.constraints (steps_in_range h) path in
    let r = leaf_in_range u q.head (steps_with_child t) u.constraints leaf q.constraints (steps_in_range h) path in (
      λ (given, e). (agreements.leaves u leaf m (record { head = q.head; facts = r })).none.0 (no_fault h followed given e),
      λ a.
          let taken =
          followed→taken u q.head u.constraints leaf m (steps_with_child t) q.constraints (steps_in_range h)
          (limits→path u (steps_with_child t) limits) followed
          ((agreements.leaves u leaf m (record { head = q.head; facts = r })).none.1 a) in
          (answer_of u leaf m, (→verdict children work answer t u false (some m) (modelled leaf m) big limits.question h taken).1),
    )
  where
    determined : (given : Assignment)
        → Holding t u false (some m)
        → Followed u u.constraints (steps_with_child t) leaf
        → Given children t u given
        → leaf_fault u leaf m ≡ 0
    determined given h f k =
        ap₂ (leaf_fault u) (one_leaf children u u.constraints leaf k.leaf (steps_with_child t) f k.followed) (one_model h k.held) ∙ k.no_fault

    no_fault : Holding t u false (some m)
        → Followed u u.constraints (steps_with_child t) leaf
        → (given : Assignment)
        → verdict work answer t ≡ Strings given
        → leaf_fault u leaf m ≡ 0
    no_fault h f given e =
        let (v, k) = accepted→given children work answer t given e in
        let same : v ≡ u = cc (claimed_asked k.held.claimed, claimed_asked h.claimed) in
        determined given h f (subst (λ w. Given children t w given) same k)
