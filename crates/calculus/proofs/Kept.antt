-- What a set keeps of a branch: an instance needs the facts that it rests on, and no other.
use Prim.Native.Nat.{ℕ, zero, suc}
use mathlib.Core.Path.{◌≡◌, refl, sym, ◌∙◌, ap, subst}
use mathlib.Core.Logic.{◌⊎◌, inl, inr}
use mathlib.Core.Bool.{Bool, true, false, cond, not, ◌&&◌, ◌||◌}
use mathlib.Core.Option.{Option, none, some}
use mathlib.Core.List.{List, [], ◌∷◌, map}
use lib.ListN.{get_elem?}
use lib.IntN.{ℤ, pos}
use lib.Dec.{T}
use Rattle.lists.specs.Lists.{All}
use Rattle.lists.proofs.Options.{some_injective}
use Rattle.lists.proofs.Tests.{and_both, →and_both, nor_both}
use Rattle.lists.proofs.Lists.{all_map}
use Rattle.lists.proofs.Searches.{lowest_passes}
use Rattle.calculus.specs.LinearForms.{number}
use Rattle.calculus.specs.Facts.{Question, Fact, same, not_same, is_literal, arithmetic, Branch, Relation, ge, eq, len, column_of}
use Rattle.calculus.specs.Chains.{Edge, AnyEdge, Chain, here, along, back, Counts}
use Rattle.calculus.specs.Rules.{states_difference, lowest_difference, states_equal, found}
use Rattle.calculus.specs.Cores.{Set, union, Rested, facts, set_at, named_sets, sets_of, equates, separates, found_set, lengths_set, neighbour_sets, rests_on}
use Rattle.calculus.specs.Instances.{FactAt, HasRelation, Summands, Exact, SumRelation, LiteralsMeet, SidesMeet, LengthsStated, Neighbours, Instance}
use Rattle.calculus.specs.Steps.{Step, Sum, BranchOn, Apart, AConf, SConf, SProp, LIntro, LValid, CCollapse, CValid, CInj, Card, Join}
use Rattle.calculus.proofs.Fits.{stated_at, →same_length}

-- ---- a set within another

-- every constraint of the first is in the second
unfoldable pub within : Set → Set → Bool
within [] t = true
within (x ∷ s) [] = not x && within s []
within (x ∷ s) (y ∷ t) = (not x || y) && within s t

or_in : (x y z : Bool) → (not (x || y) || z) ≡ true → ((not x || z) ≡ true) × ((not y || z) ≡ true)
or_in true true z h = (h, h)
or_in true false z h = (h, refl)
or_in false true z h = (refl, h)
or_in false false z h = (refl, refl)

pub within_both : (s t c : Set) → within (union s t) c ≡ true → (within s c ≡ true) × (within t c ≡ true)
unfolding within union
within_both [] t c h = (refl, h)
within_both (x ∷ s) [] c h = (h, refl)
within_both (x ∷ s) (y ∷ t) [] h =
    let (a, b) = and_both (not (x || y)) (within (union s t) []) h in
    let (p, q) = nor_both x y a in
    let (m, n) = within_both s t [] b in
    (→and_both (not x) (within s []) p m, →and_both (not y) (within t []) q n)
within_both (x ∷ s) (y ∷ t) (z ∷ c) h =
    let (a, b) = and_both (not (x || y) || z) (within (union s t) c) h in
    let (p, q) = or_in x y z a in
    let (m, n) = within_both s t c b in
    (→and_both (not x || z) (within s c) p m, →and_both (not y || z) (within t c) q n)

own : (x : Bool) → (not x || x) ≡ true
own true = refl
own false = refl

pub within_itself : (s : Set) → within s s ≡ true
unfolding within
within_itself [] = refl
within_itself (x ∷ s) = →and_both (not x || x) (within s s) (own x) (within_itself s)

-- ---- facts kept by a set: those that rest within it; for each of the others stands a fact that says nothing

abbrev pub nothing_said : Fact
nothing_said = arithmetic ge (number (pos 0))

abbrev pub keep_one : Set → Fact × Set → Fact
keep_one c f = cond (within f.1 c) f.0 nothing_said

abbrev pub keep : Set → Rested → Branch
keep c r = map (keep_one c) r

module _ (c : Set) where
  pub kept_one : (f : Fact × Set) → within f.1 c ≡ true → keep_one c f ≡ f.0
  kept_one f w = ap (λ x. cond x f.0 nothing_said) w

  -- a fact whose set is within c is there as it was
  kept_at : (r : Rested) (k : ℕ) → within (set_at r k) c ≡ true → get_elem? (keep c r) k ≡ get_elem? (facts r) k
  kept_at [] k w = refl
  kept_at (g ∷ r) zero w = ap some (kept_one g w)
  kept_at (g ∷ r) (suc k) w = kept_at r k w

  fact_kept : (r : Rested) (k : ℕ) {f : Fact} → within (set_at r k) c ≡ true → FactAt (facts r) k f → FactAt (keep c r) k f
  fact_kept r k w h = kept_at r k w ∙ h

  -- ---- chains

  edge_kept : (f : Fact × Set) (i j : ℕ) → within (cond (equates f.0) f.1 []) c ≡ true → Edge f.0 i j → Edge (keep_one c f) i j
  edge_kept (same x y, s) i j w e = subst (λ g. Edge g i j) (sym (kept_one (same x y, s) w)) e
  edge_kept (not_same x y, s) i j w e = absurd e
  edge_kept (is_literal x y, s) i j w e = subst (λ g. Edge g i j) (sym (kept_one (is_literal x y, s) w)) e
  edge_kept (arithmetic x y, s) i j w e = absurd e

  edges_kept : (r : Rested) → within (sets_of equates r) c ≡ true → (i j : ℕ) → AnyEdge (facts r) i j → AnyEdge (keep c r) i j
  unfolding sets_of
  edges_kept [] w i j e = e
  edges_kept (f ∷ r) w i j (inl e) = inl (edge_kept f i j (within_both (cond (equates f.0) f.1 []) (sets_of equates r) c w).0 e)
  edges_kept (f ∷ r) w i j (inr e) = inr (edges_kept r (within_both (cond (equates f.0) f.1 []) (sets_of equates r) c w).1 i j e)

  -- what says nothing joins nothing
  edge_there : (f : Fact) (x : Bool) (i j : ℕ) → Edge (cond x f nothing_said) i j → Edge f i j
  edge_there f true i j e = e
  edge_there f false i j e = absurd e

  edges_there : (r : Rested) (i j : ℕ) → AnyEdge (keep c r) i j → AnyEdge (facts r) i j
  edges_there [] i j e = e
  edges_there (f ∷ r) i j (inl e) = inl (edge_there f.0 (within f.1 c) i j e)
  edges_there (f ∷ r) i j (inr e) = inr (edges_there r i j e)

chain_over : {a b : Branch} → ((i j : ℕ) → AnyEdge a i j → AnyEdge b i j) → {i j : ℕ} → Chain a i j → Chain b i j
chain_over h here = here
chain_over h (along {i = i} {j = j} e k) = along (h i j e) (chain_over h k)
chain_over h (back {i = i} {j = j} e k) = back (h j i e) (chain_over h k)

-- ---- rule by rule

module _ (u : Question) (c : Set) where
  -- a Sum's facts, and whether all of them are equations
  summands_kept : (r : Rested) (ts : List (ℕ × ℤ)) (es : List (List ℤ)) → within (named_sets r ts) c ≡ true → Summands (facts r) ts es → Summands (keep c r) ts es
  unfolding named_sets
  summands_kept r [] [] w h = h
  summands_kept r [] (e ∷ es) w h = h
  summands_kept r (t ∷ ts) [] w h = h
  summands_kept r (t ∷ ts) (e ∷ es) w (h, hs) =
      let (m, ms) = within_both (set_at r t.0) (named_sets r ts) c w in
      (record { relation = h.relation; named = fact_kept c r t.0 m h.named; multiplier = h.multiplier }, summands_kept r ts es ms hs)

  abbrev Alike : Branch → Branch → ℕ × ℤ → Type 0
  Alike a b t = get_elem? a t.0 ≡ get_elem? b t.0

  named_alike : (r : Rested) (ts : List (ℕ × ℤ)) → within (named_sets r ts) c ≡ true → All (Alike (keep c r) (facts r)) ts
  unfolding named_sets
  named_alike r [] w = tt
  named_alike r (t ∷ ts) w = let (m, ms) = within_both (set_at r t.0) (named_sets r ts) c w in (kept_at c r t.0 m, named_alike r ts ms)

  equations_over : (a b : Branch) (ts : List (ℕ × ℤ)) → All (Alike a b) ts → All (λ t. HasRelation a eq t.0) ts → All (λ t. HasRelation b eq t.0) ts
  equations_over a b [] w h = tt
  equations_over a b (t ∷ ts) (w, ws) ((e, h), hs) = ((e, sym w ∙ h), equations_over a b ts ws hs)

  exact_over : (a b : Branch) (d : ℕ) (ts : List (ℕ × ℤ)) {es : List (List ℤ)} {new : List ℤ} → All (Alike a b) ts → Exact a d ts es new → Exact b d ts es new
  exact_over a b d ts w x = record { equations = equations_over a b ts w x.equations; constant = x.constant }

  relation_kept : (r : Rested) (d : ℕ) (ts : List (ℕ × ℤ)) (es : List (List ℤ)) (new : List ℤ) (relation : Relation) → within (named_sets r ts) c ≡ true
      → SumRelation (Exact (facts r) d ts es new) relation → SumRelation (Exact (keep c r) d ts es new) relation
  relation_kept r d ts es new relation w (inl (x, e)) =
      inl (exact_over (facts r) (keep c r) d ts (all_map ts (λ t h. sym h) (named_alike r ts w)) x, e)
  relation_kept r d ts es new relation w (inr (no-x, e)) = inr (λ x. no-x (exact_over (keep c r) (facts r) d ts (named_alike r ts w) x), e)

  -- Card's lowest fact for a pair
  lengths_kept : (r : Rested) (x y : ℕ) → within (lengths_set u r x y) c ≡ true → LengthsStated u (facts r) x y → LengthsStated u (keep c r) x y
  unfolding states_equal
  lengths_kept r x y w l = go (lowest_difference (facts r) (column_of u len x) (column_of u len y)) refl w (→same_length u (facts r) x y l)
    where
      go : (o : Option ℕ) → lowest_difference (facts r) (column_of u len x) (column_of u len y) ≡ o → within (found_set r o) c ≡ true → T (found o) → LengthsStated u (keep c r) x y
      go none e w t = absurd t
      go (some k) e w t =
          let (f, h, p) = lowest_passes (states_difference (column_of u len x) (column_of u len y)) (facts r) k e in
          stated_at u (keep c r) x y k f (fact_kept c r k w h) p

  neighbours_kept : (r : Rested) (x : ℕ) (ys : List ℕ) → within (neighbour_sets u r x ys) c ≡ true → Neighbours u (facts r) x ys → Neighbours u (keep c r) x ys
  unfolding neighbour_sets
  neighbours_kept r x [] w l = tt
  neighbours_kept r x (y ∷ ys) w (l, ls) =
      let (m, ms) = within_both (lengths_set u r x y) (neighbour_sets u r y ys) c w in
      (lengths_kept r x y m l, neighbours_kept r y ys ms ls)

  -- a ≉ fact
  separate_kept : (f : Fact × Set) (x y : ℕ) → within (cond (separates f.0) f.1 []) c ≡ true → f.0 ≡ not_same x y → keep_one c f ≡ not_same x y
  separate_kept f x y w e = kept_one c f (subst (λ z. within (cond z f.1 []) c ≡ true) (ap separates e) w) ∙ e

  separates_kept : (r : Rested) (k x y : ℕ) → within (sets_of separates r) c ≡ true → FactAt (facts r) k (not_same x y) → FactAt (keep c r) k (not_same x y)
  unfolding sets_of
  separates_kept [] k x y w h = h
  separates_kept (f ∷ r) zero x y w h =
      ap some (separate_kept f x y (within_both (cond (separates f.0) f.1 []) (sets_of separates r) c w).0 (some_injective h))
  separates_kept (f ∷ r) (suc k) x y w h = separates_kept r k x y (within_both (cond (separates f.0) f.1 []) (sets_of separates r) c w).1 h

  clash_kept : (r : Rested) → within (sets_of equates r) c ≡ true → within (sets_of separates r) c ≡ true
      → LiteralsMeet u (facts r) ⊎ SidesMeet (facts r) → LiteralsMeet u (keep c r) ⊎ SidesMeet (keep c r)
  clash_kept r w v (inl i) = inl (record {
    first = i.first;
    second = i.second;
    first_defined = i.first_defined;
    second_defined = i.second_defined;
    different = i.different;
    joined = chain_over (edges_kept c r w) i.joined;
  })
  clash_kept r w v (inr i) = inr (record {
    left = i.left;
    right = i.right;
    stands = (i.stands.0, separates_kept r i.stands.0 i.left i.right v i.stands.1);
    joined = chain_over (edges_kept c r w) i.joined;
  })

  -- the lowest literal of a class: fewer facts join no more
  counts_kept : (r : Rested) (x l : ℕ) → within (sets_of equates r) c ≡ true → Counts u (facts r) x l → Counts u (keep c r) x l
  counts_kept r x l w i = record {
    defined = i.defined;
    held = chain_over (edges_kept c r w) i.held;
    lowest = λ k m h. i.lowest k m (chain_over (edges_there c r) h);
  }

  pub instance_kept : (r : Rested) (st : Step) (cs : List (List Fact)) → within (rests_on u r st) c ≡ true → Instance u (facts r) st cs → Instance u (keep c r) st cs
  unfolding rests_on Instance
  instance_kept r (Sum d ts) cs w i = record {
    divisor = i.divisor;
    some_pair = i.some_pair;
    forms = i.forms;
    summands = summands_kept r ts i.forms w i.summands;
    new = i.new;
    size = i.size;
    columns = i.columns;
    floor_low = i.floor_low;
    floor_high = i.floor_high;
    relation = i.relation;
    is_equation_law = relation_kept r d ts i.forms i.new i.relation w i.is_equation_law;
    adds = i.adds;
  }
  instance_kept r (BranchOn e) cs w i = i
  instance_kept r (Apart k) cs w i = record { form = i.form; named = fact_kept c r k w i.named; adds = i.adds }
  instance_kept r (AConf k) cs w i = record {
    relation = i.relation;
    form = i.form;
    named = fact_kept c r k w i.named;
    no_coefficient = i.no_coefficient;
    false_constant = i.false_constant;
    closes = i.closes;
  }
  instance_kept r SConf cs w i =
      let (m, n) = within_both (sets_of equates r) (sets_of separates r) c w in
      record { clash = clash_kept r m n i.clash; closes = i.closes }
  instance_kept r (SProp f x y) cs w i = record { different = i.different; joined = chain_over (edges_kept c r w) i.joined; adds = i.adds }
  instance_kept r (LIntro x) cs w i = record { held = i.held; counts = counts_kept r x i.held w i.counts; adds = i.adds }
  instance_kept r (LValid x) cs w i = i
  instance_kept r (CCollapse x) cs w i = record { held = i.held; counts = counts_kept r x i.held w i.counts; adds = i.adds }
  instance_kept r (CValid x) cs w i = i
  instance_kept r (CInj x y) cs w i = i
  instance_kept r (Card []) cs w i = i
  instance_kept r (Card (x ∷ [])) cs w i = i
  instance_kept r (Card (x ∷ y ∷ xs)) cs w i = record {
    different = i.different;
    lengths = neighbours_kept r x (y ∷ xs) w i.lengths;
    last = i.last;
    last_child_law = i.last_child_law;
    adds = i.adds;
  }
  instance_kept r (Join j k) cs w i =
      let (m, n) = within_both (set_at r j) (set_at r k) c w in
      record {
        first_relation = i.first_relation;
        second_relation = i.second_relation;
        first_taken = i.first_taken;
        second_taken = i.second_taken;
        form = i.form;
        negative = i.negative;
        first = fact_kept c r j m i.first;
        second = fact_kept c r k n i.second;
        negated = i.negated;
        adds = i.adds;
      }
