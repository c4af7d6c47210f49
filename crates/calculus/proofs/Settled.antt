-- Settled leaves: the test that checking computes says what the words say.
use Prim.Native.Nat.{ℕ, ◌^◌, ◌<◌, ◌≤◌}
use native.Mathlib.Omega.{arith}
use native.Mathlib.Decide.{ℕ_discrete}
use native.Mathlib.Nat.{one-le-pow}
use mathlib.Core.Path.{◌≡◌, refl, sym, ◌∙◌, ap₂, subst}
use mathlib.Core.Logic.{◌⊎◌, inl, inr}
use mathlib.Core.Bool.{Bool, true, false, not, ◌&&◌, ◌||◌}
use mathlib.Core.Option.{Option, none, some}
use mathlib.Core.List.{List, [], ◌∷◌, map}
use lib.ListN.{length, length-map}
use lib.Dec.{T, T_not, not_T, leb, leb→le, le→leb, nleb→lt}
use lib.IntN.{ℤ, pos, nat_abs}
use lib.Signed.{◌≤ℤ◌}
use Rattle.integers.proofs.Laws.{pos_≤ℤ, -ℤ_nonneg→, →_ℤ_nonneg, abs_nonneg, ≤ℤ_abs}
use Rattle.lists.specs.Lists.{All, Distinct, all_below, all}
use Rattle.lists.proofs.Lists.{In, all_map, at_most, map_same, any→, →any, all→, →all}
use Rattle.lists.proofs.Tests.{→true, true→, and→, or→, →or_right}
use Rattle.lists.proofs.Below.{all_below→, →all_below}
use Rattle.calculus.specs.Alphabet.{character_count}
use Rattle.calculus.specs.LinearForms.{number, value_in}
use Rattle.calculus.specs.Facts.{Question, Fact, same, not_same, is_literal, arithmetic, Branch, Function, len, code, apply}
use Rattle.calculus.specs.Chains.{var_node, lit_node}
use Rattle.calculus.specs.Classes.{labels, same_class, conflict}
use Rattle.calculus.specs.Steps.{Step, Sum, BranchOn, Apart, AConf, SConf, SProp, LIntro, LValid, CCollapse, CValid, CInj, Card, Join}
use Rattle.calculus.specs.Children.{pair_children, bound_child}
use Rattle.calculus.specs.Rules.{children, least_power, last_child}
use Rattle.calculus.specs.Instances.{LastChild, Instance, IsStep, IsCard}
use Rattle.calculus.specs.Model.{model_value}
use Rattle.calculus.specs.Settled.{HoldsAlready, SomeChild, LengthsEqual, LeafInstance, Settled}
use Rattle.calculus.specs.SettledTest.{held, held_some, by_children, settled_step, lowest_variable, lowest_of_length, settled_card, settled}
use Rattle.calculus.specs.InRange.{HeadInRange, FactsInRange}
use Rattle.calculus.proofs.Alphabet.{some_character}
use Rattle.calculus.proofs.LinearForms.{dot_minus, dot_number}
use Rattle.calculus.proofs.Relations.{holds→, →holds}
use Rattle.calculus.proofs.Classes.{class→chain, chain→class, conflict→, →conflict}
use Rattle.calculus.proofs.Powers.{least_power_law, power_enough}
use Rattle.calculus.proofs.Pairs.{pairs_last, pairs_or_distinct, pairs_distinct}
use Rattle.calculus.proofs.Fits.{last→, fits→instance, instance→fits}
use Rattle.calculus.proofs.Lowest.{lowest_joined, lowest_le, lowest→class, class→lowest, lowest_lowest, IsLowest, lowests, in_lowests, lowests_distinct}
use Rattle.calculus.proofs.Leaf.{AnyHeld, some→any, any→some, Chosen, ByClasses, apply_in, class_value, length_nonneg}

module _ (u : Question) (w : HeadInRange u) (b : Branch) (r : FactsInRange u b) (m : List ℤ) where
  -- ---- a child holds already

  held→ : (f : Fact) → T (held (labels b) m f) → HoldsAlready b m f
  held→ (same x y) t = class→chain b (var_node x) (var_node y) t
  held→ (not_same x y) t = λ c. T_not (same_class (labels b) (var_node x) (var_node y)) t (chain→class u w b r (var_node x) (var_node y) c)
  held→ (is_literal x l) t = class→chain b (var_node x) (lit_node l) t
  held→ (arithmetic s e) t = holds→ s (value_in m e) t

  →held : (f : Fact) → HoldsAlready b m f → T (held (labels b) m f)
  →held (same x y) h = chain→class u w b r (var_node x) (var_node y) h
  →held (not_same x y) h = not_T (same_class (labels b) (var_node x) (var_node y)) (λ t. h (class→chain b (var_node x) (var_node y) t))
  →held (is_literal x l) h = chain→class u w b r (var_node x) (lit_node l) h
  →held (arithmetic s e) h = →holds s (value_in m e) h

  held_some→ : (cs : List (List Fact)) → T (held_some (labels b) m cs) → AnyHeld b m cs
  held_some→ cs t = any→ (all (held (labels b) m)) cs (λ c. all→ (held (labels b) m) c held→) t

  →held_some : (cs : List (List Fact)) → AnyHeld b m cs → T (held_some (labels b) m cs)
  →held_some cs h = →any (all (held (labels b) m)) cs (λ c. →all (held (labels b) m) c →held) h

  -- ---- a step of rules 6 to 11

  step→ : (st : Step) → IsStep u st → T (settled_step u b m st) → Chosen u b m st
  step→ st g t = λ cs i. any→some b m cs (held_some→ cs (subst (λ o. T (by_children (labels b) m o)) (instance→fits u w b r st g i) t))

  →step : (st : Step) → IsStep u st → Chosen u b m st → T (settled_step u b m st)
  →step st g h = go (children u b st) refl
    where
      go : (o : Option (List (List Fact))) → children u b st ≡ o → T (by_children (labels b) m o)
      go none e = tt
      go (some cs) e = →held_some cs (some→any b m cs (h cs (fits→instance u w b r st g e)))

  -- ---- Card

  abbrev low : ℕ → ℕ
  low x = lowest_variable (labels b) x

  abbrev M : ℕ → ℤ
  M x = model_value u m len x

  -- the lowest variables of the classes whose length is that of x
  abbrev of_length : ℕ → List ℕ
  of_length x = lowest_of_length u (labels b) m (M x) u.p

  abbrev characters : ℕ
  characters = character_count u.n

  abbrev least : ℕ → ℕ
  least k = least_power k characters k 0

  -- one class of that length only, or two characters and a length that is large enough
  abbrev Few : ℕ → Type 0
  Few x = (length (of_length x) ≤ 1) ⊎ ((1 < characters) × (least (length (of_length x)) ≤ nat_abs (M x)))

  card→ : (x : ℕ) → T (settled_card u (labels b) m x) → Few x
  card→ x t = go (or→ (leb (length (of_length x)) 1) (not (leb characters 1) && leb (least (length (of_length x))) (nat_abs (M x))) t)
    where
      go : T (leb (length (of_length x)) 1) ⊎ T (not (leb characters 1) && leb (least (length (of_length x))) (nat_abs (M x))) → Few x
      go (inl s) = inl (leb→le (length (of_length x)) 1 s)
      go (inr s) =
          let (p, q) = and→ (not (leb characters 1)) (leb (least (length (of_length x))) (nat_abs (M x))) s in
          inr (nleb→lt characters 1 p, leb→le (least (length (of_length x))) (nat_abs (M x)) q)

  -- the classes of one length are no more than the strings of that length
  card_enough : (x : ℕ) → T (settled_card u (labels b) m x) → length (of_length x) ≤ characters ^ nat_abs (M x)
  card_enough x t = go (card→ x t)
    where
      go : Few x → length (of_length x) ≤ characters ^ nat_abs (M x)
      go (inl h) = omega (arith, one-le-pow (nat_abs (M x)) characters (some_character u.n w.alphabet))
      go (inr (h, g)) = power_enough (some_character u.n w.alphabet) (least_power_law characters (length (of_length x)) h) g

  module _ (h : ByClasses u b m) where
    lows_in : (x : ℕ) (ys : List ℕ) → All (λ y. y < u.p) ys → All (λ y. M y ≡ M x) ys → (z : ℕ) → In z (map low ys) → In z (of_length x)
    lows_in x [] g e z i = absurd i
    lows_in x (y ∷ ys) (g, gs) (e, es) z (inl p) =
        let k : low y < u.p = omega (arith, lowest_le b y) in
        subst (λ z. In z (of_length x)) (sym p)
        (in_lowests u (labels b) m (M x) u.p (low y) (k, sym (class_value u b m h len y (low y) g k (lowest_joined b y)) ∙ e, lowest_lowest u w b r y))
    lows_in x (y ∷ ys) (g, gs) (e, es) z (inr i) = lows_in x ys gs es z i

    last_held : (x k : ℕ) (cs : List (List Fact))
        → x < u.p
        → 2 ≤ k
        → k ≤ length (of_length x)
        → T (settled_card u (labels b) m x)
        → LastChild u x k cs
        → AnyHeld b m cs
    last_held x k cs hx l g t (inl (e, p)) = absurd (go (card→ x t))
      where
        go : Few x → ⊥
        go (inl s) = omega arith
        go (inr (s, _)) = omega arith
    last_held x k cs hx l g t (inr (e, p)) =
        let enough : k ≤ characters ^ nat_abs (M x) = omega (arith, card_enough x t) in
        subst (AnyHeld b m) (sym p.adds) (inl (
          subst (λ z. pos 0 ≤ℤ z) (sym (dot_minus (apply u len x) (number (pos p.power)) (pos 1 ∷ m) (apply_in u m len x) (dot_number m (pos p.power))))
              (→_ℤ_nonneg
              (subst (λ z. pos p.power ≤ℤ z) (sym (abs_nonneg (M x) (length_nonneg u b m h x hx))) (pos_≤ℤ (p.least.least (nat_abs (M x)) enough)))),
          tt,
        ))

    card_chosen : (x : ℕ) (xs : List ℕ) (cs : List (List Fact))
        → All (λ y. y < u.p) (x ∷ xs)
        → 2 ≤ length (x ∷ xs)
        → T (settled_card u (labels b) m x)
        → IsCard u (LengthsEqual u m x xs) x xs cs
        → SomeChild b m cs
    card_chosen x xs cs g l t i = any→some b m cs (subst (AnyHeld b m) (sym i.adds)
        (go (pairs_or_distinct low (All (HoldsAlready b m)) ℕ_discrete (λ x y e. (lowest→class b x y e, tt)) (x ∷ xs) i.last)))
      where
        go : AnyHeld b m (pair_children (x ∷ xs) i.last) ⊎ Distinct (map low (x ∷ xs)) → AnyHeld b m (pair_children (x ∷ xs) i.last)
        go (inl s) = s
        go (inr d) =
            let few : length (map low (x ∷ xs)) ≤ length (of_length x) = at_most (map low (x ∷ xs)) (of_length x) d (lows_in x (x ∷ xs) g (refl, i.lengths)) in
            let same : length (map low (x ∷ xs)) ≡ length (x ∷ xs) = length-map (x ∷ xs) low in
            pairs_last low (All (HoldsAlready b m)) (x ∷ xs) i.last (last_held x (length (x ∷ xs)) i.last g.0 l (omega arith) t i.last_child_law)

  -- ---- the words give the test

  module _ (s : Settled u b m) where
    last_test : (x y k : ℕ) → M y ≡ M x → (t : Bool) → AnyHeld b m (elim t as (λ _. List (List Fact)) [ true ↦ [] | false ↦ bound_child u y (least k) ])
        → T (not t && leb (least k) (nat_abs (M x)))
    last_test x y k e true h = absurd h
    last_test x y k e false (inr h) = absurd h
    last_test x y k e false (inl (h, _)) = le→leb (least k) (nat_abs (M x)) (≤ℤ_abs (M x) (subst (λ z. pos (least k) ≤ℤ z) e
        (-ℤ_nonneg→
        (subst (λ z. pos 0 ≤ℤ z) (dot_minus (apply u len y) (number (pos (least k))) (pos 1 ∷ m) (apply_in u m len y) (dot_number m (pos (least k)))) h))))

    card_test : (x : ℕ) → T (settled_card u (labels b) m x)
    unfolding LeafInstance IsStep
    card_test x = by (of_length x) (lowests u (labels b) m (M x) u.p) (lowests_distinct u (labels b) m (M x) u.p)
      where
        by : (rs : List ℕ)
            → All (IsLowest u (labels b) m (M x) u.p) rs
            → Distinct rs
            → T (leb (length rs) 1 || (not (leb characters 1) && leb (least (length rs)) (nat_abs (M x))))
        by [] h d = tt
        by (y ∷ []) h d = tt
        by (y ∷ z ∷ ys) h d =
            let rs = y ∷ z ∷ ys in
            let k = length (y ∷ z ∷ ys) in
            →or_right (leb k 1) (not (leb characters 1) && leb (least k) (nat_abs (M x))) (last_test x y k h.0.1 (leb characters 1)
            (pairs_distinct low (All (HoldsAlready b m)) (λ x y p. class→lowest u w b r x y p.0) rs (last_child u y k)
            (subst Distinct (sym (map_same low rs (all_map rs (λ y h. h.2) h))) d)
            (some→any b m _ (s.some_child (Card rs) (all_map rs (λ y h. h.0) h, omega arith) _
            (record {
              different = d;
              lengths = all_map (z ∷ ys) (λ v p. p.1 ∙ sym h.0.1) h.1;
              last = last_child u y k;
              last_child_law = last→ u y k w.alphabet;
              adds = refl;
            })))))

    pub enough : (x : ℕ) → length (lowest_of_length u (labels b) m (model_value u m len x) u.p) ≤ characters ^ nat_abs (model_value u m len x)
    enough x = card_enough x (card_test x)

    pub by_classes : ByClasses u b m
    unfolding LeafInstance IsStep
    by_classes = record {
      s_prop = λ f x y hx hy. s.some_child (SProp f x y) (hx, hy);
      l_intro = λ x hx. s.some_child (LIntro x) hx;
      l_valid = λ x hx. s.some_child (LValid x) hx;
      c_collapse = λ x hx. s.some_child (CCollapse x) hx;
      c_valid = λ x hx. s.some_child (CValid x) hx;
      c_inj = λ x y hx hy. s.some_child (CInj x y) (hx, hy);
    }

    step≡ : (st : Step) → IsStep u st → Chosen u b m st → settled_step u b m st ≡ true
    step≡ st g h = →true (settled_step u b m st) (→step st g h)

    all_below≡ : (k : ℕ) (t : ℕ → Bool) → ((x : ℕ) → x < k → t x ≡ true) → all_below k t ≡ true
    all_below≡ k t h = →true (all_below k t) (→all_below k t (λ x g. true→ (h x g)))

    pub words→settled : settled u b m ≡ true
    unfolding Instance IsStep
    words→settled =
        let c = by_classes in
        ap₂ ◌&&◌ (→true (not (conflict u b)) (not_T (conflict u b) (λ t. s.no_conflict [] (record { clash = conflict→ u w b r t; closes = refl }))))
        (all_below≡ u.p _ (λ x hx.
        ap₂ ◌&&◌ (ap₂ ◌&&◌ (ap₂ ◌&&◌
        (ap₂ ◌&&◌ (ap₂ ◌&&◌ (step≡ (LIntro x) hx (c.l_intro x hx)) (step≡ (LValid x) hx (c.l_valid x hx))) (step≡ (CCollapse x) hx (c.c_collapse x hx)))
        (step≡ (CValid x) hx (c.c_valid x hx)))
        (→true (settled_card u (labels b) m x) (card_test x)))
        (all_below≡ u.p _ (λ y hy.
        ap₂ ◌&&◌ (ap₂ ◌&&◌ (step≡ (SProp len x y) (hx, hy) (c.s_prop len x y hx hy)) (step≡ (SProp code x y) (hx, hy) (c.s_prop code x y hx hy)))
        (step≡ (CInj x y) (hx, hy) (c.c_inj x y hx hy))))))

  -- ---- the test gives the words

  module _ (ok : settled u b m ≡ true) where
    abbrev of_one : ℕ → Bool
    of_one x =
        settled_step u b m (LIntro x)
        && settled_step u b m (LValid x)
        && settled_step u b m (CCollapse x)
        && settled_step u b m (CValid x)
        && settled_card u (labels b) m x

    abbrev of_two : ℕ → ℕ → Bool
    of_two x y = settled_step u b m (SProp len x y) && settled_step u b m (SProp code x y) && settled_step u b m (CInj x y)

    parts : T (not (conflict u b)) × T (all_below u.p (λ x. of_one x && all_below u.p (of_two x)))
    parts = and→ (not (conflict u b)) (all_below u.p (λ x. of_one x && all_below u.p (of_two x))) (true→ ok)

    of_variable : (x : ℕ) → x < u.p → T (of_one x) × T (all_below u.p (of_two x))
    of_variable x hx = and→ (of_one x) (all_below u.p (of_two x)) (all_below→ u.p (λ x. of_one x && all_below u.p (of_two x)) parts.1 x hx)

    of_one_law : (x : ℕ)
        → x < u.p
        → T (settled_step u b m (LIntro x))
        × T (settled_step u b m (LValid x))
        × T (settled_step u b m (CCollapse x))
        × T (settled_step u b m (CValid x))
        × T (settled_card u (labels b) m x)
    of_one_law x hx =
        let s0 = settled_step u b m (LIntro x) in
        let s1 = settled_step u b m (LValid x) in
        let s2 = settled_step u b m (CCollapse x) in
        let s3 = settled_step u b m (CValid x) in
        let (t3, t4) = and→ (s0 && s1 && s2 && s3) (settled_card u (labels b) m x) (of_variable x hx).0 in
        let (t2, p3) = and→ (s0 && s1 && s2) s3 t3 in
        let (t1, p2) = and→ (s0 && s1) s2 t2 in
        let (p0, p1) = and→ s0 s1 t1 in
        (p0, p1, p2, p3, t4)

    of_two_law : (x y : ℕ)
        → x < u.p
        → y < u.p
        → T (settled_step u b m (SProp len x y)) × T (settled_step u b m (SProp code x y)) × T (settled_step u b m (CInj x y))
    of_two_law x y hx hy =
        let s0 = settled_step u b m (SProp len x y) in let s1 = settled_step u b m (SProp code x y) in
        let (t1, p2) = and→ (s0 && s1) (settled_step u b m (CInj x y)) (all_below→ u.p (of_two x) (of_variable x hx).1 y hy) in
        let (p0, p1) = and→ s0 s1 t1 in
        (p0, p1, p2)

    tested : ByClasses u b m
    unfolding IsStep
    tested = record {
      s_prop = s_prop;
      l_intro = λ x hx. step→ (LIntro x) hx (of_one_law x hx).0;
      l_valid = λ x hx. step→ (LValid x) hx (of_one_law x hx).1;
      c_collapse = λ x hx. step→ (CCollapse x) hx (of_one_law x hx).2;
      c_valid = λ x hx. step→ (CValid x) hx (of_one_law x hx).3;
      c_inj = λ x y hx hy. step→ (CInj x y) (hx, hy) (of_two_law x y hx hy).2;
    }
      where
        s_prop : (f : Function) (x y : ℕ) → x < u.p → y < u.p → Chosen u b m (SProp f x y)
        s_prop len x y hx hy = step→ (SProp len x y) (hx, hy) (of_two_law x y hx hy).0
        s_prop code x y hx hy = step→ (SProp code x y) (hx, hy) (of_two_law x y hx hy).1

    some_child : (st : Step) → IsStep u st → (cs : List (List Fact)) → LeafInstance u b m st cs → SomeChild b m cs
    unfolding LeafInstance IsStep
    some_child (Sum d ts) g cs i = absurd i
    some_child (BranchOn e) g cs i = absurd i
    some_child (Apart k) g cs i = absurd i
    some_child (AConf k) g cs i = absurd i
    some_child SConf g cs i = absurd i
    some_child (SProp f x y) (hx, hy) cs i = tested.s_prop f x y hx hy cs i
    some_child (LIntro x) g cs i = tested.l_intro x g cs i
    some_child (LValid x) g cs i = tested.l_valid x g cs i
    some_child (CCollapse x) g cs i = tested.c_collapse x g cs i
    some_child (CValid x) g cs i = tested.c_valid x g cs i
    some_child (CInj x y) (hx, hy) cs i = tested.c_inj x y hx hy cs i
    some_child (Card []) g cs i = absurd i
    some_child (Card (x ∷ [])) g cs i = absurd i
    some_child (Card (x ∷ y ∷ xs)) (g, l) cs i = card_chosen tested x (y ∷ xs) cs g l (of_one_law x g.0).4 i
    some_child (Join j k) g cs i = absurd i

    pub settled→words : Settled u b m
    unfolding Instance
    settled→words = record { no_conflict = λ cs i. T_not (conflict u b) parts.0 (→conflict u w b r i.clash); some_child = some_child }
