-- Room for the children of a split, by its shape.
use Prim.Native.Nat.{ℕ, ◌+◌, ◌≤◌, ◌<◌}
use native.Mathlib.Omega.{arith}
use mathlib.Core.Path.{◌≡◌, refl, sym, ◌∙◌, ap, ap₂, subst}
use mathlib.Core.Bool.{Bool, true, false, ◌&&◌, ◌||◌, and-true, and-false, and_self}
use mathlib.Core.List.{List, [], ◌∷◌, map}
use lib.ListN.{length, length-map}
use lib.Dec.{leb, ltb}
use borrow.Author.Tests.{le-leb, lt-leb, leb-true}
use Rattle.lists.specs.Lists.{All}
use Rattle.calculus.specs.Limits.{fact_limit, pending_limit}
use Rattle.calculus.specs.Facts.{Fact}
use Rattle.calculus.specs.Steps.{shape}
use Rattle.format.specs.StepForms as format
use Rattle.format.specs.StepForms.{step_of}
use Rattle.format.specs.Checking.{room_for_all, room_to_pend}
use Rattle.steps.specs.declared.Rule.{Rule}
use Rattle.steps.specs.declared.Rule.TheVariants.{CValid}
use Rattle.steps.specs.Rules.{rule_named, one_each}
use Rattle.steps.specs.Conclusions.{conclusions_of}
use Rattle.steps.specs.declared.Conclusions.TheVariants.{Several}
use Rattle.steps.proofs.Concluding.{some_child}
use Rattle.steps.proofs.Children.{one_each_law, c_valid_shape}
use Rattle.trials.specs.Rooms.{ChildrenBy}

-- ---- room for the facts of every child

-- each child has one fact
ones : (count : ℕ) (cs : List (List Fact)) → All (λ x. x ≡ 1) (map length cs) → 1 ≤ length cs → leb (count + 1) fact_limit ≡ room_for_all count cs
unfolding room_for_all
ones count [] h l = absurd (omega arith)
ones count (c ∷ []) h l = sym (and-true (leb (count + 1) fact_limit)) ∙ ap (λ n. leb (count + n) fact_limit && true) (sym h.0)
ones count (c ∷ d ∷ cs) h l =
    sym (and_self (leb (count + 1) fact_limit)) ∙ ap₂ (λ n t. leb (count + n) fact_limit && t) (sym h.0) (ones count (d ∷ cs) h.1 (omega arith))

-- the first child has two facts, the second three
two_three : (count : ℕ) (cs : List (List Fact)) → map length cs ≡ 2 ∷ 3 ∷ [] → leb (count + 3) fact_limit ≡ room_for_all count cs
unfolding room_for_all
two_three count [] e = absurd (let z : ◌≡◌ {A = ℕ} 0 1 = cc in omega arith)
two_three count (c ∷ []) e = absurd (let z : ◌≡◌ {A = ℕ} 0 1 = cc in omega arith)
two_three count (c ∷ d ∷ f ∷ cs) e = absurd (let z : ◌≡◌ {A = ℕ} 0 1 = cc in omega arith)
two_three count (c ∷ d ∷ []) e =
    let two : length c ≡ 2 = cc in
    let three : length d ≡ 3 = cc in
    go (leb (count + 3) fact_limit) refl ∙ ap₂ (λ n k. leb (count + n) fact_limit && (leb (count + k) fact_limit && true)) (sym two) (sym three)
  where
    go : (t : Bool) → leb (count + 3) fact_limit ≡ t → leb (count + 3) fact_limit ≡ (leb (count + 2) fact_limit && (leb (count + 3) fact_limit && true))
    go true g = let l : count + 3 ≤ fact_limit = leb-true _ _ g in rw (g, le-leb (count + 2) fact_limit (omega arith))
    go false g = rw g (sym (and-false (leb (count + 2) fact_limit)))

-- ---- by the rule of a split

module _ (r : Rule) (count : ℕ) (cs : List (List Fact)) (h : ChildrenBy r cs) where
  shaped : map length cs ≡ shape h.n (step_of h.b (rule_named r) h.body h.m)
  shaped = h.shaped ∙ sym (ap (λ (q : format.Rule). shape h.n (step_of h.b q h.body h.m)) h.named)

  -- C-Valid
  pub room_three : r ≡ CValid → leb (count + 3) fact_limit ≡ room_for_all count cs
  room_three e =
      two_three count cs
      (shaped ∙ ap (λ (q : Rule). shape h.n (step_of h.b (rule_named q) h.body h.m)) e ∙ c_valid_shape h.b h.n h.body h.m)

  -- any other rule
  pub room_one : one_each (rule_named r) ≡ true → conclusions_of (rule_named r) ≡ Several → leb (count + 1) fact_limit ≡ room_for_all count cs
  room_one o s =
      let several : conclusions_of (format.rule h.b h.body) ≡ Several = sym (ap conclusions_of h.named) ∙ s in
      ones count cs (subst (All (λ x. x ≡ 1)) (sym shaped) (one_each_law h.b h.n h.body h.m (rule_named r) o))
      (omega (arith, some_child h.b h.n h.body h.m h.fits several, length-map cs length, ap length h.shaped))

-- ---- room among the pending splits

module _ (pending : ℕ) (cs : List (List Fact)) (sh : List ℕ) (e : map length cs ≡ sh) (k : ℕ) (h : k ≡ length sh) where
  its_number : k ≡ length cs
  its_number = h ∙ sym (ap length e) ∙ length-map cs length

  pub never_pending : k ≤ 1 → true ≡ room_to_pend pending cs
  never_pending l = sym (ap (λ t. t || ltb pending pending_limit) (le-leb (length cs) 1 (omega (arith, its_number))))

  pub pending_room : 1 < k → ltb pending pending_limit ≡ room_to_pend pending cs
  pending_room l = sym (ap (λ t. t || ltb pending pending_limit) (lt-leb (length cs) 1 (omega (arith, its_number))))
