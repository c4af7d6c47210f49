-- Classes: two nodes have one label exactly when a chain of ≈ facts joins them; what checking computes by labels, the lowest literal and the conflict, is what
-- the words say by chains.
use Prim.Native.Nat.{ℕ, zero, suc, ◌+◌, ◌<◌, ◌≤◌}
use native.Mathlib.Omega.{arith}
use native.Mathlib.Decide.{ℕ_discrete, dec_lt}
use mathlib.Core.Path.{◌≡◌, refl, sym, ◌∙◌, ap, ap₂, subst}
use mathlib.Core.Logic.{◌⊎◌, inl, inr}
use mathlib.Core.Bool.{Bool, true, false, cond}
use mathlib.Core.Option.{Option, none, some}
use mathlib.Core.List.{List, [], ◌∷◌}
use lib.ListN.{length, get_or, length-map}
use lib.Dec.{T, eqb, eqb→eq, eqb_refl}
use borrow.Author.Tests.{eq-eqb, eqb-true}
use Rattle.lists.specs.Lists.{any_below}
use Rattle.lists.proofs.Options.{some_injective, none_some}
use Rattle.lists.proofs.Tests.{true→, or→, →or_left, →or_right}
use Rattle.lists.proofs.Below.{any_below→, →any_below}
use Rattle.calculus.specs.Facts.{Question, Fact, same, not_same, is_literal, arithmetic, Branch}
use Rattle.calculus.specs.Chains.{var_node, lit_node, Edge, AnyEdge, Chain, here, along, back, OneClass, ClassHolds, Counts}
use Rattle.calculus.specs.Classes.{up_from, relabel, label, merge_nodes, merge_fact, labels_from, node_count, labels}
use Rattle.calculus.specs.Classes.{same_class, lowest_literal, class_literal, literals_meet, sides_meet, conflict}
use Rattle.calculus.specs.Instances.{FactAt, Stands, LiteralsMeet, SidesMeet}
use Rattle.calculus.specs.InRange.{HeadInRange, FactInRange, FactsInRange}

pub chain_trans : {b : Branch} {i j k : ℕ} → Chain b i j → Chain b j k → Chain b i k
chain_trans here d = d
chain_trans (along e c) d = along e (chain_trans c d)
chain_trans (back e c) d = back e (chain_trans c d)

pub chain_sym : {b : Branch} {i j : ℕ} → Chain b i j → Chain b j i
chain_sym here = here
chain_sym (along e c) = chain_trans (chain_sym c) (back e here)
chain_sym (back e c) = chain_trans (chain_sym c) (along e here)

-- ---- one label, one chain

up_label : (k m i d : ℕ) → d ≡ k + i → get_or (up_from k m) i d ≡ d
up_label k zero i d e = refl
up_label k (suc m) zero d e = omega arith
up_label k (suc m) (suc i) d e = up_label (suc k) m i d (omega arith)

module _ (b : Branch) where
  -- a chain leads from each node to its label
  abbrev Reached : List ℕ → Type 0
  Reached ls = (i : ℕ) → Chain b i (label ls i)

  relabel_reached : (old new : ℕ) (cs : List ℕ) (i d : ℕ) → Chain b old new → Chain b (get_or cs i d) (get_or (relabel old new cs) i d)
  relabel_reached old new [] i d r = here
  relabel_reached old new (c ∷ cs) zero d r = go (eqb c old) refl
    where
      go : (t : Bool) → eqb c old ≡ t → Chain b c (cond t new c)
      go true e = subst (λ x. Chain b x new) (sym (eqb-true c old e)) r
      go false e = here
  relabel_reached old new (c ∷ cs) (suc i) d r = relabel_reached old new cs i d r

  merge_reached : (ls : List ℕ) (i j : ℕ) → Chain b i j → Reached ls → Reached (merge_nodes ls i j)
  merge_reached ls i j c h k =
      chain_trans (h k) (relabel_reached (label ls j) (label ls i) ls k k (chain_trans (chain_sym (h j)) (chain_trans (chain_sym c) (h i))))

  fact_reached : (ls : List ℕ) (f : Fact) → ((i j : ℕ) → Edge f i j → Chain b i j) → Reached ls → Reached (merge_fact ls f)
  fact_reached ls (same x y) g h = merge_reached ls (var_node x) (var_node y) (g (var_node x) (var_node y) (refl, refl)) h
  fact_reached ls (not_same x y) g h = h
  fact_reached ls (is_literal x l) g h = merge_reached ls (var_node x) (lit_node l) (g (var_node x) (lit_node l) (refl, refl)) h
  fact_reached ls (arithmetic r e) g h = h

  from_reached : (ls : List ℕ) (c : Branch) → ((i j : ℕ) → AnyEdge c i j → Chain b i j) → Reached ls → Reached (labels_from ls c)
  from_reached ls [] g h = h
  from_reached ls (f ∷ c) g h = from_reached (merge_fact ls f) c (λ i j e. g i j (inr e)) (fact_reached ls f (λ i j e. g i j (inl e)) h)

  reached : Reached (labels b)
  reached = from_reached (up_from 0 node_count) b (λ i j e. along e here) (λ i. subst (Chain b i) (sym (up_label 0 node_count i i (omega arith))) here)

  pub class→chain : (i j : ℕ) → T (same_class (labels b) i j) → Chain b i j
  class→chain i j t = chain_trans (reached i) (subst (λ l. Chain b l j) (sym (eqb→eq (label (labels b) i) (label (labels b) j) t)) (chain_sym (reached j)))

-- ---- one chain, one label, over the nodes that have a label

moved : ℕ → ℕ → ℕ → ℕ
moved old new c = cond (eqb c old) new c

label_relabel : (old new : ℕ) (cs : List ℕ) (i d : ℕ) → i < length cs → get_or (relabel old new cs) i d ≡ moved old new (get_or cs i d)
unfolding moved
label_relabel old new [] i d h = absurd (omega arith)
label_relabel old new (c ∷ cs) zero d h = refl
label_relabel old new (c ∷ cs) (suc i) d h = label_relabel old new cs i d (omega arith)

pub length_relabel : (old new : ℕ) (cs : List ℕ) → length (relabel old new cs) ≡ length cs
length_relabel old new cs = length-map cs (λ c. cond (eqb c old) new c)

length_merge : (ls : List ℕ) (f : Fact) → length (merge_fact ls f) ≡ length ls
length_merge ls (same x y) = length_relabel (label ls (var_node y)) (label ls (var_node x)) ls
length_merge ls (not_same x y) = refl
length_merge ls (is_literal x l) = length_relabel (label ls (lit_node l)) (label ls (var_node x)) ls
length_merge ls (arithmetic r e) = refl

moved_old : (old new : ℕ) → moved old new old ≡ new
unfolding moved
moved_old old new = ap (λ t. cond t new old) (eq-eqb old old refl)

moved_new : (old new : ℕ) → moved old new new ≡ new
unfolding moved
moved_new old new = go (eqb new old)
  where
    go : (t : Bool) → cond t new new ≡ new
    go true = refl
    go false = refl

merges : (ls : List ℕ) (i j : ℕ) → i < length ls → j < length ls → label (merge_nodes ls i j) i ≡ label (merge_nodes ls i j) j
merges ls i j h g = label_relabel (label ls j) (label ls i) ls i i h ∙ moved_new (label ls j) (label ls i)
    ∙ sym (label_relabel (label ls j) (label ls i) ls j j g ∙ moved_old (label ls j) (label ls i))

keeps_nodes : (ls : List ℕ) (x y i j : ℕ) → i < length ls → j < length ls → label ls i ≡ label ls j → label (merge_nodes ls x y) i ≡ label (merge_nodes ls x y) j
keeps_nodes ls x y i j h g e =
    label_relabel (label ls y) (label ls x) ls i i h ∙ ap (moved (label ls y) (label ls x)) e ∙ sym (label_relabel (label ls y) (label ls x) ls j j g)

keeps : (ls : List ℕ) (f : Fact) (i j : ℕ) → i < length ls → j < length ls → label ls i ≡ label ls j → label (merge_fact ls f) i ≡ label (merge_fact ls f) j
keeps ls (same x y) i j h g e = keeps_nodes ls (var_node x) (var_node y) i j h g e
keeps ls (not_same x y) i j h g e = e
keeps ls (is_literal x l) i j h g e = keeps_nodes ls (var_node x) (lit_node l) i j h g e
keeps ls (arithmetic r t) i j h g e = e

keeps_all : (b : Branch) (ls : List ℕ) (i j : ℕ)
    → i < length ls
    → j < length ls
    → label ls i ≡ label ls j
    → label (labels_from ls b) i ≡ label (labels_from ls b) j
keeps_all [] ls i j h g e = e
keeps_all (f ∷ b) ls i j h g e = keeps_all b (merge_fact ls f) i j (rw length_merge h) (rw length_merge g) (keeps ls f i j h g e)

merge_edge : (ls : List ℕ) (x y i j : ℕ) → i ≡ x → j ≡ y → i < length ls → j < length ls → label (merge_nodes ls x y) i ≡ label (merge_nodes ls x y) j
merge_edge ls x y i j p q h g =
    subst (λ n. label (merge_nodes ls n y) i ≡ label (merge_nodes ls n y) j) p
    (subst (λ n. label (merge_nodes ls i n) i ≡ label (merge_nodes ls i n) j) q (merges ls i j h g))

edge_merges : (ls : List ℕ) (f : Fact) (i j : ℕ) → Edge f i j → i < length ls → j < length ls → label (merge_fact ls f) i ≡ label (merge_fact ls f) j
edge_merges ls (same x y) i j (p, q) h g = merge_edge ls (var_node x) (var_node y) i j p q h g
edge_merges ls (not_same x y) i j e h g = absurd e
edge_merges ls (is_literal x l) i j (p, q) h g = merge_edge ls (var_node x) (lit_node l) i j p q h g
edge_merges ls (arithmetic r t) i j e h g = absurd e

any_merges : (b : Branch) (ls : List ℕ) (i j : ℕ) → AnyEdge b i j → i < length ls → j < length ls → label (labels_from ls b) i ≡ label (labels_from ls b) j
any_merges [] ls i j e h g = absurd e
any_merges (f ∷ b) ls i j (inl e) h g = keeps_all b (merge_fact ls f) i j (rw length_merge h) (rw length_merge g) (edge_merges ls f i j e h g)
any_merges (f ∷ b) ls i j (inr e) h g = any_merges b (merge_fact ls f) i j e (rw length_merge h) (rw length_merge g)

-- ---- a branch in range

module _ (u : Question) (w : HeadInRange u) where
  edge_nodes : (f : Fact) (i j : ℕ) → FactInRange u f → Edge f i j → (i < node_count) × (j < node_count)
  edge_nodes (same x y) i j (hx, hy) (p, q) = (omega (arith, w.strings), omega (arith, w.strings))
  edge_nodes (not_same x y) i j h e = absurd e
  edge_nodes (is_literal x l) i j (hx, hl) (p, q) = (omega (arith, w.strings), omega (arith, w.literals))
  edge_nodes (arithmetic r t) i j h e = absurd e

  any_nodes : (b : Branch) (i j : ℕ) → FactsInRange u b → AnyEdge b i j → (i < node_count) × (j < node_count)
  any_nodes [] i j r e = absurd e
  any_nodes (f ∷ b) i j r (inl e) = edge_nodes f i j r.0 e
  any_nodes (f ∷ b) i j r (inr e) = any_nodes b i j r.1 e

module _ (u : Question) (w : HeadInRange u) (b : Branch) (r : FactsInRange u b) where
  edge_label : (i j : ℕ) → AnyEdge b i j → label (labels b) i ≡ label (labels b) j
  edge_label i j e = let (h, g) = any_nodes u w b i j r e in any_merges b (up_from 0 node_count) i j e h g

  pub chain→label : {i j : ℕ} → Chain b i j → label (labels b) i ≡ label (labels b) j
  chain→label here = refl
  chain→label (along {i = i} {j = j} e c) = edge_label i j e ∙ chain→label c
  chain→label (back {i = i} {j = j} e c) = sym (edge_label j i e) ∙ chain→label c

  pub chain→class : (i j : ℕ) → Chain b i j → T (same_class (labels b) i j)
  chain→class i j c = subst (λ l. T (eqb (label (labels b) i) l)) (chain→label c) (eqb_refl (label (labels b) i))

-- ---- the lowest literal of a class

-- what the search from k on among m literals finds
abbrev Found : List ℕ → ℕ → ℕ → ℕ → Option ℕ → Type 0
Found ls x k m none = (i : ℕ) → k ≤ i → i < k + m → T (same_class ls (var_node x) (lit_node i)) → ⊥
Found ls x k m (some l) = (l < k + m) × T (same_class ls (var_node x) (lit_node l)) × ((i : ℕ) → k ≤ i → i < l → T (same_class ls (var_node x) (lit_node i)) → ⊥)

module _ (ls : List ℕ) (x : ℕ) where
  abbrev Holding : ℕ → Type 0
  Holding i = T (same_class ls (var_node x) (lit_node i))

  skip : (k n : ℕ) → (Holding k → ⊥) → ((i : ℕ) → suc k ≤ i → i < n → Holding i → ⊥) → (i : ℕ) → k ≤ i → i < n → Holding i → ⊥
  skip k n f h i a c t = go (ℕ_discrete i k)
    where
      go : Dec (i ≡ k) → ⊥
      go (yes p) = f (subst Holding p t)
      go (no g) = h i (omega arith) c t

  found : (k m : ℕ) → Found ls x k m (lowest_literal ls x k m)
  found k zero = λ i a c t. omega arith
  found k (suc m) = go (same_class ls (var_node x) (lit_node k)) refl (lowest_literal ls x (suc k) m) (found (suc k) m)
    where
      later : (t : Bool) → same_class ls (var_node x) (lit_node k) ≡ t → t ≡ false → Holding k → ⊥
      later t s e h = subst T (s ∙ e) h

      go : (t : Bool)
          → same_class ls (var_node x) (lit_node k) ≡ t
          → (o : Option ℕ)
          → Found ls x (suc k) m o
          → Found ls x k (suc m) (elim t as (λ _. Option ℕ) [ true ↦ some k | false ↦ o ])
      go true s o h = (omega arith, true→ s, λ i a c t. omega arith)
      go false s none h = skip k (k + suc m) (later false s refl) (λ i a c t. h i a (omega arith) t)
      go false s (some l) (g, q, h) = (omega arith, q, skip k l (later false s refl) h)

module _ (u : Question) (w : HeadInRange u) (b : Branch) (r : FactsInRange u b) where
  found_literal : (x : ℕ) (o : Option ℕ) → class_literal u b x ≡ o → Found (labels b) x 0 (suc (length u.literals)) o
  found_literal x o e = subst (Found (labels b) x 0 (suc (length u.literals))) e (found (labels b) x 0 (suc (length u.literals)))

  pub literal→counts : (x : ℕ) {l : ℕ} → class_literal u b x ≡ some l → Counts u b x l
  literal→counts x {l} e =
      let (g, q, h) = found_literal x (some l) e in
      record {
        defined = omega arith;
        held = class→chain b (var_node x) (lit_node l) q;
        lowest = λ k a c. h k (omega arith) a (chain→class u w b r (var_node x) (lit_node k) c);
      }

  pub no_literal : (x : ℕ) → class_literal u b x ≡ none → (l : ℕ) → l ≤ length u.literals → ClassHolds b x l → ⊥
  no_literal x e l h c = found_literal x none e l (omega arith) (omega arith) (chain→class u w b r (var_node x) (lit_node l) c)

  counts_unique : {x k l : ℕ} → Counts u b x k → Counts u b x l → k ≡ l
  counts_unique {x} {k} {l} c d = go (dec_lt k l) (dec_lt l k)
    where
      go : Dec (k < l) → Dec (l < k) → k ≡ l
      go (yes h) g = absurd (d.lowest k h c.held)
      go (no f) (yes h) = absurd (c.lowest l h d.held)
      go (no f) (no g) = omega arith

  pub counts→literal : (x l : ℕ) → Counts u b x l → class_literal u b x ≡ some l
  counts→literal x l c = go (class_literal u b x) refl
    where
      go : (o : Option ℕ) → class_literal u b x ≡ o → o ≡ some l
      go none e = absurd (no_literal x e l c.defined c.held)
      go (some k) e = ap some (counts_unique (literal→counts x e) c)

  lowest_same : (x y k m : ℕ) → label (labels b) (var_node x) ≡ label (labels b) (var_node y) → lowest_literal (labels b) x k m ≡ lowest_literal (labels b) y k m
  lowest_same x y k zero e = refl
  lowest_same x y k (suc m) e =
      ap₂ {B = Option ℕ} {C = Option ℕ} (λ t o. elim (eqb t (label (labels b) (lit_node k))) as (λ _. Option ℕ) [ true ↦ some k | false ↦ o ]) e
      (lowest_same x y (suc k) m e)

  pub literal_same : (x y : ℕ) → OneClass b x y → class_literal u b x ≡ class_literal u b y
  literal_same x y c = lowest_same x y 0 (suc (length u.literals)) (chain→label u w b r c)

-- ---- the conflict

module _ (u : Question) (w : HeadInRange u) (b : Branch) (r : FactsInRange u b) where
  abbrev meets : ℕ → ℕ → Bool
  meets i j = same_class (labels b) (lit_node i) (lit_node j)

  literals_meet→ : T (literals_meet (suc (length u.literals)) (labels b)) → LiteralsMeet u b
  literals_meet→ t =
      let (i, hi, s) = any_below→ (suc (length u.literals)) (λ i. any_below i (meets i)) t in
      let (j, hj, q) = any_below→ i (meets i) s in
      record {
        first = i;
        second = j;
        first_defined = omega arith;
        second_defined = omega arith;
        different = λ e. omega arith;
        joined = class→chain b (lit_node i) (lit_node j) q;
      }

  meet_in_order : (i j : ℕ) → i ≤ length u.literals → j < i → Chain b (lit_node i) (lit_node j) → T (literals_meet (suc (length u.literals)) (labels b))
  meet_in_order i j hi hj c =
      →any_below (suc (length u.literals)) (λ i. any_below i (meets i)) i (omega arith)
      (→any_below i (meets i) j hj (chain→class u w b r (lit_node i) (lit_node j) c))

  →literals_meet : LiteralsMeet u b → T (literals_meet (suc (length u.literals)) (labels b))
  →literals_meet m = go (dec_lt m.second m.first) (dec_lt m.first m.second)
    where
      go : Dec (m.second < m.first) → Dec (m.first < m.second) → T (literals_meet (suc (length u.literals)) (labels b))
      go (yes h) g = meet_in_order m.first m.second m.first_defined h m.joined
      go (no f) (yes h) = meet_in_order m.second m.first m.second_defined h (chain_sym m.joined)
      go (no f) (no g) = absurd (m.different (omega arith))

-- a ≉ fact of c has both sides in one class of ls
sides_meet→ : (ls : List ℕ) (c : Branch) → T (sides_meet ls c) → (x : ℕ) × (y : ℕ) × Stands c (not_same x y) × T (same_class ls (var_node x) (var_node y))
sides_meet→ ls [] t = absurd t
sides_meet→ ls (same x y ∷ c) t = let (x', y', (k, h), s) = sides_meet→ ls c t in (x', y', (suc k, h), s)
sides_meet→ ls (is_literal x y ∷ c) t = let (x', y', (k, h), s) = sides_meet→ ls c t in (x', y', (suc k, h), s)
sides_meet→ ls (arithmetic r e ∷ c) t = let (x', y', (k, h), s) = sides_meet→ ls c t in (x', y', (suc k, h), s)
sides_meet→ ls (not_same x y ∷ c) t = go (or→ (same_class ls (var_node x) (var_node y)) (sides_meet ls c) t) (sides_meet→ ls c)
  where
    go : T (same_class ls (var_node x) (var_node y)) ⊎ T (sides_meet ls c)
        → (T (sides_meet ls c) → (x : ℕ) × (y : ℕ) × Stands c (not_same x y) × T (same_class ls (var_node x) (var_node y)))
        → (x' : ℕ) × (y' : ℕ) × Stands (not_same x y ∷ c) (not_same x' y') × T (same_class ls (var_node x') (var_node y'))
    go (inl s) ih = (x, y, (0, refl), s)
    go (inr s) ih = let (x', y', (k, h), q) = ih s in (x', y', (suc k, h), q)

→sides_meet : (ls : List ℕ) (c : Branch) (x y k : ℕ) → FactAt c k (not_same x y) → T (same_class ls (var_node x) (var_node y)) → T (sides_meet ls c)
→sides_meet ls [] x y k h t = absurd (none_some h)
→sides_meet ls (f ∷ c) x y zero h t =
    subst (λ f. T (sides_meet ls (f ∷ c))) (sym (some_injective h)) (→or_left (same_class ls (var_node x) (var_node y)) (sides_meet ls c) t)
→sides_meet ls (same p q ∷ c) x y (suc k) h t = →sides_meet ls c x y k h t
→sides_meet ls (is_literal p q ∷ c) x y (suc k) h t = →sides_meet ls c x y k h t
→sides_meet ls (arithmetic r e ∷ c) x y (suc k) h t = →sides_meet ls c x y k h t
→sides_meet ls (not_same p q ∷ c) x y (suc k) h t = →or_right (same_class ls (var_node p) (var_node q)) (sides_meet ls c) (→sides_meet ls c x y k h t)

module _ (u : Question) (w : HeadInRange u) (b : Branch) (r : FactsInRange u b) where
  pub conflict→ : T (conflict u b) → LiteralsMeet u b ⊎ SidesMeet b
  conflict→ t = go (or→ (literals_meet (suc (length u.literals)) (labels b)) (sides_meet (labels b) b) t)
    where
      go : T (literals_meet (suc (length u.literals)) (labels b)) ⊎ T (sides_meet (labels b) b) → LiteralsMeet u b ⊎ SidesMeet b
      go (inl s) = inl (literals_meet→ u w b r s)
      go (inr s) =
          let (x, y, h, q) = sides_meet→ (labels b) b s in
          inr (record { left = x; right = y; stands = h; joined = class→chain b (var_node x) (var_node y) q })

  pub →conflict : LiteralsMeet u b ⊎ SidesMeet b → T (conflict u b)
  →conflict (inl m) = →or_left (literals_meet (suc (length u.literals)) (labels b)) (sides_meet (labels b) b) (→literals_meet u w b r m)
  →conflict (inr m) = →or_right (literals_meet (suc (length u.literals)) (labels b)) (sides_meet (labels b) b)
      (→sides_meet (labels b) b m.left m.right m.stands.0 m.stands.1 (chain→class u w b r (var_node m.left) (var_node m.right) m.joined))
