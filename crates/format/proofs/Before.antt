-- ThL4: a ticket accepted by the rules before L4 is accepted now, with the same answer; and what those rules are.
use Prim.Native.Nat.{ℕ, zero, suc, ◌+◌}
use native.Mathlib.Omega.{arith}
use mathlib.Core.Path.{◌≡◌, refl, sym, ◌∙◌, ap, ap₂, subst}
use mathlib.Core.Logic.{◌≢◌}
use mathlib.Core.Bool.{Bool, true, false, ◌&&◌, ◌||◌}
use mathlib.Core.Option.{Option, some}
use mathlib.Core.List.{List, ◌++◌}
use lib.ListN.{length, get_elem?, take}
use lib.Dec.{leb, ltb}
use lib.IntN.{ℤ}
use Rattle.lists.proofs.Options.{some_injective, none_some}
use Rattle.lists.proofs.Matched.{Matched, matched_map, matched_at, matched_length, matched_all}
use Rattle.calculus.specs.Logic.{Iff}
use Rattle.calculus.specs.Limits.{fact_limit, pending_limit}
use Rattle.calculus.specs.Facts.{Question, Fact, Branch, Relation, ge, arithmetic}
use Rattle.calculus.specs.Steps.{Step, Sum, BranchOn, Apart, AConf, SConf, SProp, LIntro, LValid, CCollapse, CValid, CInj, Card, Join}
use Rattle.calculus.specs.Walk.{Waiting, working, closed}
use Rattle.calculus.specs.Children.{child_at, one}
use Rattle.calculus.specs.Rules.{then, sum_of, divided, sum_relation, join_of, join_before, children, children_before}
use Rattle.calculus.specs.Instances.{HasRelation}
use Rattle.calculus.specs.SettledTest.{settled}
use Rattle.calculus.proofs.Tests.{then→, →then}
use Rattle.calculus.proofs.Alongside.{ChildrenRelated, both_working, both_closed}
use Rattle.calculus.proofs.Before.{Raised, raised_alike, RaisedBranch, RaisedChild, raised_same, raised_append, fitted_now, joined_before, settled_same, strings_same}
use Rattle.format.specs.Records.{need}
use Rattle.format.specs.Reading.{State, proving, taking, modelled, Method}
use Rattle.format.specs.Checking.{or_none, fact_within, facts_within, children_within, room, room_for_all, all_tried, taken_tried, child_in, keeps, short_lengths, leaf_fault}
use Rattle.format.specs.Checking.{Outcome, NoSolution, Strings, checker_by, checker, accepted, verdict, verdict_before}
use Rattle.format.specs.ProperForm.{steps_with_child}
use Rattle.format.specs.Demands.{ThL4, ThL4Before}
use Rattle.format.proofs.Faults.{none_applies, passed}
use Rattle.format.proofs.Leaves.{keeps→, →keeps}
use Rattle.format.proofs.Claimed.{started}
use Rattle.format.proofs.Tickets.{NoRefusal, verdict→, →verdict}
use Rattle.format.proofs.Sizes.{large_enough_law}
use Rattle.format.proofs.Checker.{fitting}
use Rattle.format.proofs.Alongside.{Beside, both_proving, both_taking, both_modelled, Follows, taken_beside}

-- ---- 9 and 10 look at numbers and counts, which are the same

facts_within_same : (c : Branch) (x y : List Fact) → RaisedChild c x y → facts_within x ≡ facts_within y
unfolding facts_within
facts_within_same c x y k = matched_all Raised fact_within fact_within (raised_alike fact_within (λ e. refl)) x y k.facts

room_same : (b c : Branch) (x y : List Fact) → RaisedBranch b c → RaisedChild c x y → room (length b) x ≡ room (length c) y
room_same b c x y r k = ap₂ (λ i j. leb (i + j) fact_limit) (matched_length Raised b c r.facts) (matched_length Raised x y k.facts)

tried_same : (b c : Branch) (p q : ℕ) (cs ds : List (List Fact)) → RaisedBranch b c → p ≡ q → Matched (RaisedChild c) cs ds → all_tried b p (some cs) ≡ all_tried c q (some ds)
unfolding children_within room_for_all
tried_same b c p q cs ds r e k =
    ap₂ (λ s t. need 9 s (need 10 t 0)) (matched_all (RaisedChild c) facts_within facts_within (facts_within_same c) cs ds k)
    (ap₂ ◌&&◌ (matched_all (RaisedChild c) (room (length b)) (room (length c)) (λ x y. room_same b c x y r) cs ds k)
    (ap₂ (λ i j. leb i 1 || ltb j pending_limit) (matched_length (RaisedChild c) cs ds k) e))

taken_tried_same : (b c : Branch) (x y : List Fact) → RaisedBranch b c → RaisedChild c x y → taken_tried b (some x) ≡ taken_tried c (some y)
taken_tried_same b c x y r k = ap₂ (λ s t. need 9 s (need 10 t 0)) (facts_within_same c x y k) (room_same b c x y r k)

-- the child of a number
child_now : (c : Branch) (cs ds : List (List Fact)) (k : ℕ) {x : List Fact}
    → Matched (RaisedChild c) cs ds
    → child_at cs k ≡ some x
    → (y : List Fact) × (child_at ds k ≡ some y) × RaisedChild c x y
child_now c cs ds zero m e = absurd (none_some e)
child_now c cs ds (suc k) m e = matched_at (RaisedChild c) cs ds k m e

module _ (u : Question) where
  abbrev before : Method Branch (List Fact)
  before = checker_by children_before u

  -- ---- a step

  split_now : (b c : Branch) (ss ts : List (Waiting Branch (List Fact))) (st : Step)
      → RaisedBranch b c
      → length ss ≡ length ts
      → before.split_fault b ss st ≡ 0
      → ((checker u).split_fault c ts st ≡ 0) × ChildrenRelated ◌++◌ ◌++◌ RaisedBranch b c (before.children b st) ((checker u).children c st)
  split_now b c ss ts st r l e =
      let (cs, p, _) = fitting (children_before u b st) _ e in
      let (ds, q, k) = fitted_now u b c r st cs p in (
        ap (all_tried c (length ts)) q ∙ sym (tried_same b c (length ss) (length ts) cs ds r l k) ∙ sym (ap (all_tried b (length ss)) p) ∙ e,
        subst (λ xs. ChildrenRelated ◌++◌ ◌++◌ RaisedBranch b c xs ((checker u).children c st)) (sym (ap or_none p))
            (subst (λ xs. ChildrenRelated ◌++◌ ◌++◌ RaisedBranch b c cs xs) (sym (ap or_none q)) (matched_map (RaisedChild c) (λ x y. raised_append b c x y r) cs ds k)),
      )

  taken_now : (b c : Branch) (st : Step) (k : ℕ)
      → RaisedBranch b c
      → before.taken_fault b st k ≡ 0
      → ((checker u).taken_fault c st k ≡ 0) × RaisedBranch (before.taken b st k) ((checker u).taken c st k)
  taken_now b c st k r e =
      let (x, p, _) = fitting (child_in (children_before u b st) k) _ e in
      let (cs, o, p') = then→ (children_before u b st) (λ cs. child_at cs k) p in
      let (ds, q, m) = fitted_now u b c r st cs o in
      let (y, q', z) = child_now c cs ds k m p' in
      let now : child_in (children u c st) k ≡ some y = →then (λ cs. child_at cs k) q q' in (
        ap (taken_tried c) now ∙ sym (taken_tried_same b c x y r z) ∙ sym (ap (taken_tried b) p) ∙ e,
        subst (λ xs. RaisedBranch (b ++ xs) ((checker u).taken c st k)) (sym (ap or_none p))
            (subst (λ xs. RaisedBranch (b ++ x) (c ++ xs)) (sym (ap or_none now)) (raised_append b c x y r z)),
      )

  -- ---- the leaf

  leaf_now : (b c : Branch) (m : List ℤ) → RaisedBranch b c → leaf_fault u b m ≡ 0 → leaf_fault u c m ≡ 0
  leaf_now b c m r e =
      let behind : ℕ = need 14 (short_lengths u m) 0 in
      let (met, e13) = none_applies 11 (keeps m b) (need 13 (settled u b m) behind) e in
      passed 12 (keeps m c) (need 13 (settled u c m) behind) (→keeps m c (r.met m (keeps→ m b met)))
      ∙ ap (λ t. need 13 t behind) (settled_same u m b c r.facts)
      ∙ e13

  follows : Follows before (checker u) RaisedBranch
  follows = record { split = split_now; taken = taken_now; leaf = leaf_now }

  start_beside : (claim : Bool) → Beside before (checker u) RaisedBranch (started before claim) (started (checker u) claim)
  start_beside true = both_proving (both_working (raised_same u.constraints) tt)
  start_beside false = both_taking (raised_same u.constraints)

  accepted_same : (s t : State Branch (List Fact)) (q : ℕ) → Beside before (checker u) RaisedBranch s t → accepted u t q ≡ accepted u s q
  accepted_same _ _ q (both_proving (both_working r g)) = refl
  accepted_same _ _ q (both_proving both_closed) = refl
  accepted_same _ _ q (both_taking r) = refl
  accepted_same _ _ q (both_modelled {b = b} {d = c} {m = m} r) =
      ap (λ ss. Strings (record { strs = ss; ints = take u.q m })) (strings_same u m b c r.facts)

-- ---- the ticket

-- where it is no refusal, the end's number does not matter
whatever_number : (u : Question) (o : Outcome) → NoRefusal o → (s : State Branch (List Fact)) (q r : ℕ) → accepted u s q ≡ o → accepted u s r ≡ o
whatever_number u o never (proving (working b ss)) q r e = absurd (never _ _ e)
whatever_number u o never (proving closed) q r e = e
whatever_number u o never (taking b) q r e = absurd (never _ _ e)
whatever_number u o never (modelled b m) q r e = e

-- whatever was no refusal
still : (work answer : ℕ) (t : List ℕ) (o : Outcome) → NoRefusal o → verdict_before work answer t ≡ o → verdict work answer t ≡ o
still work answer t o never e =
    let v = verdict→ children_before work answer t o never e in
    let u = v.asked in
    let (claim, m, held, taken) = v.read in
    let (s', now, z) = taken_beside (before u) (checker u) RaisedBranch (follows u) (steps_with_child t) m _ v.state _ (start_beside u claim) taken in
    let (q, given) = →verdict children work answer t u claim m s' (large_enough_law children_before work answer t (never 1) e) v.few held now in
    given ∙ accepted_same u v.state s' q z ∙ whatever_number u o never v.state v.number q v.gives

pub accepted_now : ThL4
accepted_now work answer t = (
  still work answer t NoSolution (λ c r z. let z : ◌≡◌ {A = ℕ} 0 1 = cc in omega arith),
  λ a. still work answer t (Strings a) (λ c r z. let z : ◌≡◌ {A = ℕ} 0 1 = cc in omega arith),
)

-- ---- the rules before

module _ (u : Question) (b : Branch) where
  sum_before : (d : ℕ) (ts : List (ℕ × ℤ)) (cs : List (List Fact)) → Iff (children_before u b (Sum d ts) ≡ some cs)
      ((r : Relation) × (e : List ℤ) × (children u b (Sum d ts) ≡ some (one (arithmetic r e))) × (cs ≡ one (arithmetic ge e)))
  sum_before d ts cs = (
    λ h.
        let (s, p, h1) = then→ (sum_of b ts) _ h in
        let (e, q, h2) = then→ (divided d s) _ h1 in
        (sum_relation b d ts s, e, →then _ p (→then _ q refl), sym (some_injective h2)),
    λ (r, e, h, z).
        let (s, p, h1) = then→ (sum_of b ts) _ h in
        let (a, q, h2) = then→ (divided d s) _ h1 in
        let same : a ≡ e = cc (some_injective h2) in
        →then _ p (→then _ q (ap (λ a. some (one (arithmetic ge a))) same ∙ ap some (sym z))),
  )

  join_before_law : (j k : ℕ) (cs : List (List Fact)) → Iff (children_before u b (Join j k) ≡ some cs)
      ((children u b (Join j k) ≡ some cs) × HasRelation b ge j × HasRelation b ge k)
  join_before_law j k cs = (
    λ h.
        let (f, p, h1) = then→ (get_elem? b j) (λ f. then (get_elem? b k) (λ g. join_before f g)) h in
        let (g, q, h2) = then→ (get_elem? b k) (λ g. join_before f g) h1 in
        let (h3, (e, pe), (a, qa)) = joined_before f g h2 in
        (→then _ p (→then _ q h3), (e, p ∙ ap some pe), (a, q ∙ ap some qa)),
    λ (h, (e, p), (a, q)).
        ap₂ (λ (x y : Option Fact). then x (λ f. then y (λ g. join_before f g))) p q
        ∙ sym (ap₂ (λ (x y : Option Fact). then x (λ f. then y (λ g. join_of f g))) p q) ∙ h,
  )

  other_before : (st : Step) → ((d : ℕ) (ts : List (ℕ × ℤ)) → st ≢ Sum d ts) → ((j k : ℕ) → st ≢ Join j k) → children_before u b st ≡ children u b st
  other_before (Sum d ts) h g = absurd (h d ts refl)
  other_before (BranchOn e) h g = refl
  other_before (Apart k) h g = refl
  other_before (AConf k) h g = refl
  other_before SConf h g = refl
  other_before (SProp f x y) h g = refl
  other_before (LIntro x) h g = refl
  other_before (LValid x) h g = refl
  other_before (CCollapse x) h g = refl
  other_before (CValid x) h g = refl
  other_before (CInj x y) h g = refl
  other_before (Card xs) h g = refl
  other_before (Join j k) h g = absurd (g j k refl)

pub rules_before : ThL4Before
rules_before u b = record { sum = sum_before u b; join = join_before_law u b; others = other_before u b }
