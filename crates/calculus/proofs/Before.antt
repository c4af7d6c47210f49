-- What fitted by the rules before L4 fits now: a step has the same children, but that a Sum may have an equation where it had a ≥ fact, and every number
-- and every class is the same. Values that meet the facts before meet those now.
use Prim.Native.Nat.{ℕ, zero, suc}
use native.Mathlib.Omega.{arith}
use mathlib.Core.Path.{◌≡◌, refl, sym, ◌∙◌, ap, ap₂, subst}
use mathlib.Core.Logic.{inl, inr}
use mathlib.Core.Bool.{Bool, true, false, cond, not, ◌&&◌, ◌||◌}
use mathlib.Core.Option.{Option, none, some}
use mathlib.Core.List.{List, [], ◌∷◌, ◌++◌}
use lib.ListN.{length, get_elem?, get_or}
use lib.Dec.{T, ltb}
use lib.IntN.{ℤ, pos, negsuc, nat_abs}
use lib.Signed.{non_neg}
use Rattle.lists.specs.Lists.{All}
use Rattle.lists.proofs.Options.{none_some, some_injective}
use Rattle.lists.proofs.Tests.{and→, →and}
use Rattle.lists.proofs.Below.{all_below_same}
use Rattle.lists.proofs.Lists.{all_append, all_left, all_right}
use Rattle.lists.proofs.Matched.{Matched, matched_append, matched_at, matched_any, matched_same}
use Rattle.calculus.specs.LinearForms.{is_zero, all_zero}
use Rattle.calculus.specs.Facts.{Question, Fact, Branch, Function, ge, eq, ne, arithmetic, same, not_same, is_literal, len, code}
use Rattle.calculus.specs.Classes.{merge_fact, labels_from, up_from, node_count, labels, literals_meet, sides_of, clash, conflict}
use Rattle.calculus.specs.Steps.{Step, Sum, BranchOn, Apart, AConf, SConf, SProp, LIntro, LValid, CCollapse, CValid, CInj, Card, Join}
use Rattle.calculus.specs.Children.{sum_child}
use Rattle.calculus.specs.Rules.{guard, then, summand, sum_of, divided, all_equations, divides_exactly, sum_relation, apart_of, is_false, join_form, join_of, distinct, neighbours}
use Rattle.calculus.specs.Rules.{literal_children, card_children, children, join_before, children_before}
use Rattle.calculus.specs.Instances.{FactAt, LengthsStated, Neighbours}
use Rattle.calculus.specs.Model.{model_value}
use Rattle.calculus.specs.Settled.{MeetsArithmetic}
use Rattle.calculus.specs.SettledTest.{by_children, settled_step, lowest_variable, settled_card, settled}
use Rattle.calculus.specs.Strings.{fresh_from, fixed_string, fixed_strings, string_of, strings_to, strings}
use Rattle.calculus.proofs.Tests.{guard→, →guard, then→, →then}
use Rattle.calculus.proofs.Entries.{Divided, divided→}
use Rattle.calculus.proofs.Arithmetic.{sum_holds}
use Rattle.calculus.proofs.Fits.{sum→, sum_relation_law, neighbours→, →neighbours}

-- g is f, or an equation where f is the ≥ fact of the same form
pub data Raised : Fact → Fact → Type 0 where
  as_it_was : {f : Fact} → Raised f f
  to_equation : {e : List ℤ} → Raised (arithmetic ge e) (arithmetic eq e)

-- what tells no ≥ fact from the equation of its form is the same of both
pub raised_alike : {A : Type 0} (look : Fact → A) → ((e : List ℤ) → look (arithmetic ge e) ≡ look (arithmetic eq e)) → (f g : Fact) → Raised f g → look f ≡ look g
raised_alike look h f _ as_it_was = refl
raised_alike look h _ _ (to_equation {e = e}) = h e

-- a branch before and the branch now, fact by fact; values that meet the one meet the other
pub record RaisedBranch (b c : Branch) : Type 0 where
  pub facts : Matched Raised b c
  pub met : (v : List ℤ) → All (MeetsArithmetic v) b → All (MeetsArithmetic v) c

-- a child of a step before and its child now, on the branch c
pub record RaisedChild (c : Branch) (x y : List Fact) : Type 0 where
  pub facts : Matched Raised x y
  pub met : (v : List ℤ) → All (MeetsArithmetic v) c → All (MeetsArithmetic v) x → All (MeetsArithmetic v) y

facts_same : (b : List Fact) → Matched Raised b b
facts_same b = matched_same Raised (λ f. as_it_was) b

pub raised_same : (b : Branch) → RaisedBranch b b
raised_same b = record { facts = facts_same b; met = λ v m. m }

children_same : (c : Branch) (cs : List (List Fact)) → Matched (RaisedChild c) cs cs
children_same c cs = matched_same (RaisedChild c) (λ x. record { facts = facts_same x; met = λ v k m. m }) cs

pub raised_append : (b c : Branch) (x y : List Fact) → RaisedBranch b c → RaisedChild c x y → RaisedBranch (b ++ x) (c ++ y)
raised_append b c x y r k = record {
  facts = matched_append Raised b x c y r.facts k.facts;
  met = λ v m.
      let now = r.met v (all_left (MeetsArithmetic v) b x m) in
      all_append (MeetsArithmetic v) c y now (k.met v now (all_right (MeetsArithmetic v) b x m));
}

-- ---- classes

labels_from_law : (ls : List ℕ) (b c : Branch) → Matched Raised b c → labels_from ls c ≡ labels_from ls b
labels_from_law ls [] [] h = refl
labels_from_law ls [] (g ∷ c) h = absurd h
labels_from_law ls (f ∷ b) [] h = absurd h
labels_from_law ls (f ∷ b) (g ∷ c) (h, hs) =
    ap (λ l. labels_from l c) (sym (raised_alike (merge_fact ls) (λ e. refl) f g h)) ∙ labels_from_law (merge_fact ls f) b c hs

module _ (b c : Branch) (h : Matched Raised b c) where
  labels_same : labels c ≡ labels b
  labels_same = labels_from_law (up_from 0 node_count) b c h

  conflict_same : (u : Question) → conflict u c ≡ conflict u b
  conflict_same u =
      ap (λ ls. clash (suc (length u.literals)) ls c) labels_same
      ∙ ap (λ t. literals_meet (suc (length u.literals)) (labels b) || t) (sym (matched_any Raised sides sides (raised_alike sides (λ e. refl)) b c h))
    where
      sides : Fact → Bool
      sides f = sides_of (labels b) f

-- ---- 1 Sum

summand_same : (m : ℤ) (f g : Fact) (e : List ℤ) → Raised f g → summand m f ≡ some e → summand m g ≡ some e
summand_same m f _ e as_it_was h = h
summand_same m _ _ e to_equation h =
    let (t, q) = guard→ (non_neg m && not (is_zero m)) h in
    →guard (not (is_zero m)) (and→ (non_neg m) (not (is_zero m)) t).1 q

sum_same : (b c : Branch) (ts : List (ℕ × ℤ)) (r : List ℤ) → Matched Raised b c → sum_of b ts ≡ some r → sum_of c ts ≡ some r
sum_same b c [] r h e = e
sum_same b c (t ∷ ts) r h e =
    let (f, e1, r1) = then→ (get_elem? b t.0) _ e in
    let (x, e2, r2) = then→ (summand t.1 f) _ r1 in
    let (s, e3, r3) = then→ (sum_of b ts) _ r2 in
    let (g, q, k) = matched_at Raised b c t.0 h e1 in
    →then _ q (→then _ (summand_same t.1 f g x k e2) (→then _ (sum_same b c ts s h e3) r3))

-- the ≥ fact, and the fact now
sum_raised : (b : Branch) (d : ℕ) (ts : List (ℕ × ℤ)) (r e : List ℤ) → Raised (arithmetic ge e) (arithmetic (sum_relation b d ts r) e)
sum_raised b d ts r e = go (all_equations b ts && divides_exactly d r)
  where
    go : (t : Bool) → Raised (arithmetic ge e) (arithmetic (cond t eq ge) e)
    go true = to_equation
    go false = as_it_was

-- ---- 4 A-Conf, 12 Card, 13 Join

false_same : (f g : Fact) → Raised f g → T (is_false f) → T (is_false g)
false_same f _ as_it_was t = t
false_same _ _ (to_equation {e = []}) t = absurd t
false_same _ _ (to_equation {e = pos zero ∷ cs}) t = absurd (and→ (all_zero cs) _ t).1
false_same _ _ (to_equation {e = pos (suc n) ∷ cs}) t = absurd (and→ (all_zero cs) _ t).1
false_same _ _ (to_equation {e = negsuc n ∷ cs}) t = t

equation_same : (e : List ℤ) (f g : Fact) → Raised f g → f ≡ arithmetic eq e → g ≡ arithmetic eq e
equation_same e f _ as_it_was p = p
equation_same e _ _ to_equation p = absurd (let z : ◌≡◌ {A = ℕ} 0 1 = cc in omega arith)

module _ (u : Question) (b c : Branch) (h : Matched Raised b c) where
  equation_at : (k : ℕ) (e : List ℤ) → FactAt b k (arithmetic eq e) → FactAt c k (arithmetic eq e)
  equation_at k e p = let (g, q, s) = matched_at Raised b c k h p in q ∙ ap some (equation_same e (arithmetic eq e) g s refl)

  lengths_same : (x y : ℕ) → LengthsStated u b x y → LengthsStated u c x y
  lengths_same x y (inl (k, p)) = inl (k, equation_at k _ p)
  lengths_same x y (inr (k, p)) = inr (k, equation_at k _ p)

  neighbours_same : (x : ℕ) (ys : List ℕ) → Neighbours u b x ys → Neighbours u c x ys
  neighbours_same x [] p = tt
  neighbours_same x (y ∷ ys) (p, ps) = (lengths_same x y p, neighbours_same y ys ps)

  card_same : (xs : List ℕ) {cs : List (List Fact)} → card_children u b xs ≡ some cs → card_children u c xs ≡ some cs
  card_same [] e = e
  card_same (x ∷ []) e = e
  card_same (x ∷ y ∷ xs) e =
      let (t, q) = guard→ (distinct (x ∷ y ∷ xs) && neighbours u b x (y ∷ xs)) e in
      let (d, n) = and→ (distinct (x ∷ y ∷ xs)) (neighbours u b x (y ∷ xs)) t in
      →guard (distinct (x ∷ y ∷ xs) && neighbours u c x (y ∷ xs))
      (→and (distinct (x ∷ y ∷ xs)) (neighbours u c x (y ∷ xs)) d (→neighbours u c x (y ∷ xs) (neighbours_same x (y ∷ xs) (neighbours→ u b x (y ∷ xs) n)))) q

-- where Join fitted before, it fits, and both facts are ≥
pub joined_before : (f g : Fact) {cs : List (List Fact)}
    → join_before f g ≡ some cs
    → (join_of f g ≡ some cs) × ((e : List ℤ) × (f ≡ arithmetic ge e)) × ((e : List ℤ) × (g ≡ arithmetic ge e))
joined_before (arithmetic ge e) (arithmetic ge g) h = (h, (e, refl), (g, refl))
joined_before (arithmetic ge e) (arithmetic eq g) h = absurd (none_some h)
joined_before (arithmetic ge e) (arithmetic ne g) h = absurd (none_some h)
joined_before (arithmetic ge e) (same x y) h = absurd (none_some h)
joined_before (arithmetic ge e) (not_same x y) h = absurd (none_some h)
joined_before (arithmetic ge e) (is_literal x y) h = absurd (none_some h)
joined_before (arithmetic eq e) g h = absurd (none_some h)
joined_before (arithmetic ne e) g h = absurd (none_some h)
joined_before (same x y) g h = absurd (none_some h)
joined_before (not_same x y) g h = absurd (none_some h)
joined_before (is_literal x y) g h = absurd (none_some h)

apart_same : (f g : Fact) {cs : List (List Fact)} → Raised f g → apart_of f ≡ some cs → apart_of g ≡ some cs
apart_same f _ as_it_was e = e
apart_same _ _ to_equation e = absurd (none_some e)

-- ---- every rule

module _ (u : Question) (b c : Branch) (r : RaisedBranch b c) where
  abbrev Now : Step → List (List Fact) → Type 0
  Now st cs = (ds : List (List Fact)) × (children u c st ≡ some ds) × Matched (RaisedChild c) cs ds

  unchanged : (st : Step) (cs : List (List Fact)) → children u c st ≡ some cs → Now st cs
  unchanged st cs e = (cs, e, children_same c cs)

  sum_now : (d : ℕ) (ts : List (ℕ × ℤ)) {cs : List (List Fact)} → children_before u b (Sum d ts) ≡ some cs → Now (Sum d ts) cs
  sum_now d ts h =
      let (s, e1, h1) = then→ (sum_of b ts) _ h in
      let (e, e2, h2) = then→ (divided d s) _ h1 in
      let q = sum_same b c ts s r.facts e1 in (
        sum_child (sum_relation c d ts s) e,
        →then _ q (→then _ e2 refl),
        subst (λ cs. Matched (RaisedChild c) cs (sum_child (sum_relation c d ts s) e)) (some_injective h2) (
          record {
            facts = (sum_raised c d ts s e, tt);
            met = λ v m _. (holds s e q e2 v m, tt);
          },
          tt,
        ),
      )
    where
      holds : (s e : List ℤ) → sum_of c ts ≡ some s → divided d s ≡ some e → (v : List ℤ) → All (MeetsArithmetic v) c
          → MeetsArithmetic v (arithmetic (sum_relation c d ts s) e)
      holds s e p q v m =
          let (es, k, z) = sum→ c ts p in
          sum_holds v c d ts es e (sum_relation c d ts s) m k (subst (λ s. Divided d s e) z (divided→ d s e q).0) (sum_relation_law c d ts es z q)

  pub fitted_now : (st : Step) (cs : List (List Fact)) → children_before u b st ≡ some cs → Now st cs
  fitted_now (Sum d ts) cs e = sum_now d ts e
  fitted_now (BranchOn a) cs e = unchanged (BranchOn a) cs e
  fitted_now (Apart k) cs e =
      let (f, h, e1) = then→ (get_elem? b k) apart_of e in
      let (g, q, s) = matched_at Raised b c k r.facts h in
      unchanged (Apart k) cs (→then apart_of q (apart_same f g s e1))
  fitted_now (AConf k) cs e =
      let (f, h, e1) = then→ (get_elem? b k) (λ f. guard (is_false f) []) e in
      let (g, q, s) = matched_at Raised b c k r.facts h in
      let (t, n) = guard→ (is_false f) e1 in
      unchanged (AConf k) cs (→then (λ f. guard (is_false f) []) q (→guard (is_false g) (false_same f g s t) n))
  fitted_now SConf cs e = unchanged SConf cs (ap (λ t. guard t []) (conflict_same b c r.facts u) ∙ e)
  fitted_now (SProp f x y) cs e = unchanged (SProp f x y) cs (rw (labels_same b c r.facts) e)
  fitted_now (LIntro x) cs e = unchanged (LIntro x) cs (rw (labels_same b c r.facts) e)
  fitted_now (LValid x) cs e = unchanged (LValid x) cs e
  fitted_now (CCollapse x) cs e = unchanged (CCollapse x) cs (rw (labels_same b c r.facts) e)
  fitted_now (CValid x) cs e = unchanged (CValid x) cs e
  fitted_now (CInj x y) cs e = unchanged (CInj x y) cs e
  fitted_now (Card xs) cs e = unchanged (Card xs) cs (card_same u b c r.facts xs e)
  fitted_now (Join j k) cs e =
      let (f, hf, e1) = then→ (get_elem? b j) (λ f. then (get_elem? b k) (λ g. join_before f g)) e in
      let (g, hg, e2) = then→ (get_elem? b k) (λ g. join_before f g) e1 in
      let (f', qf, sf) = matched_at Raised b c j r.facts hf in
      let (g', qg, sg) = matched_at Raised b c k r.facts hg in
      unchanged (Join j k) cs (→then _ qf (→then _ qg (joined f g f' g' sf sg (joined_before f g e2).0)))
    where
      joined : (f g f' g' : Fact) {cs : List (List Fact)} → Raised f f' → Raised g g' → join_of f g ≡ some cs → join_of f' g' ≡ some cs
      joined f g f' g' s t h = rw (sym (raised_alike join_form (λ e. refl) f f' s), sym (raised_alike join_form (λ e. refl) g g' t)) h

-- ---- the leaf

module _ (u : Question) (m : List ℤ) (b c : Branch) (h : Matched Raised b c) where
  -- a step with the same children settles the same
  step_same : (st : Step) → children u c st ≡ children u b st → settled_step u c m st ≡ settled_step u b m st
  step_same st e = ap₂ (λ (ls : List ℕ) (cs : Option (List (List Fact))). by_children ls m cs) (labels_same b c h) e

  literal_same : (f : Function) (x : ℕ) → literal_children u c f x ≡ literal_children u b f x
  literal_same f x = rw (labels_same b c h) refl

  pair_same : (f : Function) (x y : ℕ) → settled_step u c m (SProp f x y) ≡ settled_step u b m (SProp f x y)
  pair_same f x y = step_same (SProp f x y) (rw (labels_same b c h) refl)

  pub settled_same : settled u c m ≡ settled u b m
  settled_same =
      ap₂ (λ (t s : Bool). not t && s) (conflict_same b c h u)
      (all_below_same u.p _ _ (λ x.
      ap₂ ◌&&◌ (ap₂ ◌&&◌ (ap₂ ◌&&◌
      (ap₂ ◌&&◌ (ap₂ ◌&&◌ (step_same (LIntro x) (literal_same len x)) (step_same (LValid x) refl)) (step_same (CCollapse x) (literal_same code x)))
      (step_same (CValid x) refl))
      (ap (λ (ls : List ℕ). settled_card u ls m x) (labels_same b c h)))
      (all_below_same u.p _ _ (λ y.
      ap₂ ◌&&◌ (ap₂ ◌&&◌ (pair_same len x y) (pair_same code x y)) (step_same (CInj x y) refl)))))

  fixed_same : (x : ℕ) → fixed_string u c m x ≡ fixed_string u b m x
  fixed_same x = rw (labels_same b c h) refl

  all_fixed_same : (k : ℕ) → fixed_strings u c m k ≡ fixed_strings u b m k
  all_fixed_same zero = refl
  all_fixed_same (suc k) = ap₂ (λ (o : Option (List ℕ)) (ss : List (List ℕ)). elim o as (λ _. List (List ℕ)) [ some s ↦ s ∷ ss | none ↦ ss ]) (fixed_same k) (all_fixed_same k)

  string_same : (x : ℕ) (done : List (List ℕ)) → string_of u c m x done ≡ string_of u b m x done
  string_same x done = ap₂ (λ (o : Option (List ℕ)) (s : List ℕ). elim o as (λ _. List ℕ) [ some t ↦ t | none ↦ s ]) (fixed_same x)
      (ap₂ (λ (ls : List ℕ) (ss : List (List ℕ)). elim (ltb (lowest_variable ls x) x) as (λ _. List ℕ) [
        | true ↦ get_or done (lowest_variable ls x) []
        | false ↦ fresh_from u.p u.n (nat_abs (model_value u m len x)) (ss ++ done) 0
      ]) (labels_same b c h) (all_fixed_same u.p))

  strings_to_same : (k : ℕ) → strings_to u c m k ≡ strings_to u b m k
  strings_to_same zero = refl
  strings_to_same (suc k) = ap₂ (λ ss s. ss ++ (s ∷ [])) (strings_to_same k) (string_same k (strings_to u c m k) ∙ ap (string_of u b m k) (strings_to_same k))

  pub strings_same : strings u c m ≡ strings u b m
  strings_same = strings_to_same u.p
