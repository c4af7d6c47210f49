-- Every rule keeps an assignment alive: what meets a branch meets a child of each instance on it.
use Prim.Native.Nat.{ℕ, suc, ◌+◌, ◌*◌, ◌/◌, ◌%◌, ◌^◌, ◌<◌, ◌≤◌}
use native.Mathlib.Omega.{arith}
use native.Mathlib.Decide.{ℕ_discrete}
use mathlib.Core.Path.{◌≡◌, refl, sym, ◌∙◌, ap, ap₂, subst}
use mathlib.Core.Logic.{◌≢◌, ◌⊎◌, inl, inr}
use mathlib.Core.Bool.{cond}
use mathlib.Core.List.{List, [], ◌∷◌, map, tail, List-discrete}
use lib.ListN.{length, length-map}
use lib.Dec.{eqb}
use lib.IntN.{ℤ, pos, negsuc, ◌+ℤ◌, ◌-ℤ◌, +ℤ_idr, ℤ_discrete, pos-ne-negsuc}
use lib.Signed.{◌≤ℤ◌}
use Rattle.integers.proofs.Laws.{pos_injective, pos_≤ℤ, -ℤ_zero→}
use Rattle.integers.proofs.Laws.{→_ℤ_zero, →_ℤ_nonneg, branch_cases, apart_cases}
use Rattle.lists.specs.Lists.{All, Distinct, Any}
use Rattle.lists.proofs.Lists.{all_map, all_at, distinct_at}
use Rattle.calculus.specs.Alphabet.{character_count, code_ranges, Over}
use Rattle.calculus.specs.LinearForms.{number, minus, less, above, below}
use Rattle.calculus.specs.Facts.{Question, Fact, same, not_same, is_literal, arithmetic, Branch, ge}
use Rattle.calculus.specs.Facts.{eq, Holds, Function, len, code, literal, column_of, apply, code_of, value_of}
use Rattle.calculus.specs.Chains.{var_node, lit_node, Edge, AnyEdge, Chain, here, along, back}
use Rattle.calculus.specs.Steps.{Step, Sum, BranchOn, Apart, AConf, SConf, SProp, LIntro, LValid, CCollapse, CValid, CInj, Card, Join}
use Rattle.calculus.specs.Children.{pair_children, code_child, c_valid_children, c_inj_children}
use Rattle.calculus.specs.Instances.{entry, FactAt, IsAConf, LiteralsMeet, SidesMeet}
use Rattle.calculus.specs.Instances.{IsClassLiteral, LengthsStated, Neighbours, LastChild, IsCard, Instance, IsStep}
use Rattle.calculus.specs.Settled.{MeetsArithmetic}
use Rattle.calculus.specs.Meaning.{Assignment, str, IsAssignment, columns, value, Meets, Met}
use Rattle.calculus.proofs.LinearForms.{dot_minus, dot_number, dot_column, dot_less, dot_above, dot_below}
use Rattle.calculus.proofs.Alphabet.{InCodes, →ranges}
use Rattle.calculus.proofs.Arithmetic.{sum_holds, join_holds}
use Rattle.calculus.proofs.Entries.{entry_tail, dot_entries, dot_split, sum_divided}
use Rattle.calculus.proofs.Powers.{one_power}
use Rattle.calculus.proofs.Columns.{column_value}
use Rattle.calculus.proofs.Words.{one_or_no_code, Word, count}
use Rattle.calculus.proofs.Pairs.{pairs_last, pairs_or_distinct}

-- the assignment meets one of the children
abbrev pub AnyMet : Question → Assignment → List (List Fact) → Type 0
AnyMet u a cs = Any (Met u a) cs

-- ---- strings and their codes

no_code_or_equal : (s t : List ℕ) → (code_of s ≡ negsuc 0) ⊎ ((code_of s ≢ code_of t) ⊎ (s ≡ t))
no_code_or_equal s t = go (one_or_no_code s) (one_or_no_code t) (ℤ_discrete (code_of s) (code_of t))
  where
    go : ((c : ℕ) × (s ≡ c ∷ [])) ⊎ ((length s ≢ 1) × (code_of s ≡ negsuc 0))
        → ((d : ℕ) × (t ≡ d ∷ [])) ⊎ ((length t ≢ 1) × (code_of t ≡ negsuc 0))
        → Dec (code_of s ≡ code_of t)
        → (code_of s ≡ negsuc 0) ⊎ ((code_of s ≢ code_of t) ⊎ (s ≡ t))
    go (inr (f, p)) h d = inl p
    go (inl (c, p)) h (no f) = inr (inl f)
    go (inl (c, p)) (inl (d, q)) (yes e) = inr (inr (p ∙ ap (λ c. c ∷ []) (pos_injective (sym (ap code_of p) ∙ e ∙ ap code_of q)) ∙ sym q))
    go (inl (c, p)) (inr (f, q)) (yes e) = absurd (pos-ne-negsuc c 0 (sym (ap code_of p) ∙ e ∙ q))

module _ (u : Question) (a : Assignment) (f : IsAssignment u a) where
  -- ---- values

  -- the values of the columns
  abbrev v : List ℤ
  v = columns a

  apply_value : (g : Function) (x : ℕ) → x < u.p → value a (apply u g x) ≡ value_of g (str a x)
  apply_value g x h = dot_column v (column_of u g x) ∙ column_value u a f.strings f.integers g x h

  above_length : (x : ℕ) → x < u.p → value a (above (apply u len x)) ≡ pos (length (str a x)) -ℤ pos 1
  above_length x h = dot_above v (apply u len x) (apply_value len x h)

  -- an equation f(x) − k = 0 holds where f(x) is k
  equals_number : (g : Function) (x : ℕ) (k : ℤ) → x < u.p → value_of g (str a x) ≡ k → Meets u a (arithmetic eq (minus (apply u g x) (number k)))
  equals_number g x k h e = (dot_minus (apply u g x) (number k) (pos 1 ∷ v) (apply_value g x h) (dot_number v k) ∙ →_ℤ_zero e)

  -- the columns' values meet the arithmetic facts
  meets_arithmetic : (g : Fact) → Meets u a g → MeetsArithmetic v g
  meets_arithmetic (same x y) m = tt
  meets_arithmetic (not_same x y) m = tt
  meets_arithmetic (is_literal x l) m = tt
  meets_arithmetic (arithmetic r e) m = m

  met_arithmetic : (b : Branch) → Met u a b → All (MeetsArithmetic v) b
  met_arithmetic b m = all_map b meets_arithmetic m

  -- ---- 4 A-Conf

  conf_dead : (b : Branch) (k : ℕ) (cs : List (List Fact)) → Met u a b → IsAConf b k cs → ⊥
  conf_dead b k cs m i = i.false_constant (subst (Holds i.relation) constant (all_at (Meets u a) b k m i.named))
    where
      constant : value a i.form ≡ entry i.form 0
      constant =
          dot_split i.form v
          ∙ ap (λ z. entry i.form 0 +ℤ z) (dot_entries (tail i.form) [] v (λ j. entry_tail i.form j ∙ i.no_coefficient j))
          ∙ +ℤ_idr (entry i.form 0)

  -- ---- classes

  -- the string at a node
  node : ℕ → List ℕ
  node i = cond (eqb (i % 2) 0) (str a (i / 2)) (literal u (i / 2))

  node_is : (i r q : ℕ) → i % 2 ≡ r → i / 2 ≡ q → node i ≡ cond (eqb r 0) (str a q) (literal u q)
  unfolding node
  node_is i r q e h = ap₂ (λ r q. cond (eqb r 0) (str a q) (literal u q)) e h

  node_variable : (x : ℕ) → node (var_node x) ≡ str a x
  node_variable x = node_is (2 * x) 0 x (omega arith) (omega arith)

  node_literal : (l : ℕ) → node (lit_node l) ≡ literal u l
  node_literal l = node_is (2 * l + 1) 1 l (omega arith) (omega arith)

  edge_met : (g : Fact) (i j : ℕ) → Meets u a g → Edge g i j → node i ≡ node j
  edge_met (same x y) i j h (p, q) = ap node p ∙ node_variable x ∙ h ∙ sym (node_variable y) ∙ ap node (sym q)
  edge_met (not_same x y) i j h e = absurd e
  edge_met (is_literal x l) i j h (p, q) = ap node p ∙ node_variable x ∙ h ∙ sym (node_literal l) ∙ ap node (sym q)
  edge_met (arithmetic r t) i j h e = absurd e

  any_edge_met : (b : Branch) (i j : ℕ) → Met u a b → AnyEdge b i j → node i ≡ node j
  any_edge_met [] i j m e = absurd e
  any_edge_met (g ∷ b) i j m (inl e) = edge_met g i j m.0 e
  any_edge_met (g ∷ b) i j m (inr e) = any_edge_met b i j m.1 e

  chain_met : {b : Branch} {i j : ℕ} → Met u a b → Chain b i j → node i ≡ node j
  chain_met m here = refl
  chain_met {b} m (along {i = i} {j = j} e c) = any_edge_met b i j m e ∙ chain_met m c
  chain_met {b} m (back {i = i} {j = j} e c) = sym (any_edge_met b j i m e) ∙ chain_met m c

  literal_met : (b : Branch) (g : Function) (x : ℕ) (cs : List (List Fact)) → Met u a b → x < u.p → IsClassLiteral u b g x cs → AnyMet u a cs
  literal_met b g x cs m h i =
      subst (AnyMet u a) (sym i.adds) (inl (
        equals_number g x (value_of g (literal u i.held)) h
            (ap (value_of g) (sym (node_variable x) ∙ chain_met m i.counts.held ∙ node_literal i.held)),
        tt,
      ))

  clash_dead : (b : Branch) → Distinct ([] ∷ u.literals) → Met u a b → LiteralsMeet u b ⊎ SidesMeet b → ⊥
  clash_dead b d m (inl i) =
      distinct_at [] ([] ∷ u.literals) i.first i.second d (omega (arith, i.first_defined)) (omega (arith, i.second_defined)) i.different
      (sym (node_literal i.first) ∙ chain_met m i.joined ∙ node_literal i.second)
  clash_dead b d m (inr i) =
      all_at (Meets u a) b i.stands.0 m i.stands.1 (sym (node_variable i.left) ∙ chain_met m i.joined ∙ node_variable i.right)

  -- ---- 12 Card

  stated_met : (b : Branch) (x y k : ℕ)
      → Met u a b
      → x < u.p
      → y < u.p
      → FactAt b k (arithmetic eq (minus (apply u len x) (apply u len y)))
      → length (str a x) ≡ length (str a y)
  stated_met b x y k m hx hy h =
      pos_injective
      (-ℤ_zero→ (sym (dot_minus (apply u len x) (apply u len y) (pos 1 ∷ v) (apply_value len x hx) (apply_value len y hy)) ∙ all_at (Meets u a) b k m h))

  lengths_met : (b : Branch) (x y : ℕ) → Met u a b → x < u.p → y < u.p → LengthsStated u b x y → length (str a x) ≡ length (str a y)
  lengths_met b x y m hx hy (inl (k, h)) = stated_met b x y k m hx hy h
  lengths_met b x y m hx hy (inr (k, h)) = sym (stated_met b y x k m hy hx h)

  words_met : (b : Branch) (l x : ℕ) (ys : List ℕ)
      → Met u a b
      → x < u.p
      → All (λ y. y < u.p) ys
      → Neighbours u b x ys
      → length (str a x) ≡ l
      → All (Word u.n l) (map (str a) ys)
  words_met b l x [] m hx g h e = tt
  words_met b l x (y ∷ ys) m hx (hy, g) (s, h) e =
      let k : length (str a y) ≡ l = sym (lengths_met b x y m hx hy s) ∙ e in
      ((f.over y, k), words_met b l y ys m hy g h k)

  last_met : (x m : ℕ) (cs : List (List Fact)) → x < u.p → 2 ≤ m → m ≤ character_count u.n ^ length (str a x) → LastChild u x m cs → AnyMet u a cs
  last_met x m cs hx h g (inl (e, p)) =
      absurd (let k : m ≤ 1 = subst (λ z. m ≤ z) (ap (λ n. n ^ length (str a x)) e ∙ one_power (length (str a x))) g in omega arith)
  last_met x m cs hx h g (inr (e, p)) = subst (AnyMet u a) (sym p.adds) (inl (
    (subst (λ z. pos 0 ≤ℤ z) (sym (dot_minus (apply u len x) (number (pos p.power)) (pos 1 ∷ v) (apply_value len x hx) (dot_number v (pos p.power))))
        (→_ℤ_nonneg (pos_≤ℤ (p.least.least (length (str a x)) g)))),
    tt,
  ))

  card_met : (b : Branch) (x : ℕ) (xs : List ℕ) (cs : List (List Fact))
      → Met u a b
      → All (λ y. y < u.p) (x ∷ xs)
      → 2 ≤ length (x ∷ xs)
      → IsCard u (Neighbours u b x xs) x xs cs
      → AnyMet u a cs
  card_met b x xs cs m (hx, g) l i =
      subst (AnyMet u a) (sym i.adds) (go (pairs_or_distinct (str a) (Met u a) (List-discrete ℕ_discrete) (λ x y e. (e, tt)) (x ∷ xs) i.last))
    where
      few : Distinct (map (str a) (x ∷ xs)) → length (x ∷ xs) ≤ character_count u.n ^ length (str a x)
      few d = subst (λ k. k ≤ character_count u.n ^ length (str a x)) (length-map (x ∷ xs) (str a))
          (count u.n (length (str a x)) (map (str a) (x ∷ xs)) ((f.over x, refl), words_met b (length (str a x)) x xs m hx g i.lengths refl) d)

      go : AnyMet u a (pair_children (x ∷ xs) i.last) ⊎ Distinct (map (str a) (x ∷ xs)) → AnyMet u a (pair_children (x ∷ xs) i.last)
      go (inl h) = h
      go (inr d) = pairs_last (str a) (Met u a) (x ∷ xs) i.last (last_met x (length (x ∷ xs)) i.last hx l (few d) i.last_child_law)

  -- ---- every rule

  two : {P Q : Type 0} (c d : Fact) → (P → Meets u a c) → (Q → Meets u a d) → P ⊎ Q → AnyMet u a ((c ∷ []) ∷ (d ∷ []) ∷ [])
  two c d g h (inl p) = inl (g p, tt)
  two c d g h (inr q) = inr (inl (h q, tt))

  at_least : (e : List ℤ) {z : ℤ} → value a e ≡ z → pos 0 ≤ℤ z → Meets u a (arithmetic ge e)
  at_least e p h = (subst (λ z. pos 0 ≤ℤ z) (sym p) h)

  pub instance_sound : Distinct ([] ∷ u.literals)
      → (b : Branch) (st : Step) (cs : List (List Fact))
      → IsStep u st
      → Instance u b st cs
      → Met u a b
      → AnyMet u a cs
  unfolding Instance IsStep
  instance_sound d b (Sum k ts) cs g i m =
      subst (AnyMet u a) (sym i.adds)
      (inl (sum_holds v b k ts i.forms i.new i.relation (met_arithmetic b m) i.summands (sum_divided i) i.is_equation_law, tt))
  instance_sound d b (BranchOn e) cs g i m =
      subst (AnyMet u a) (sym i)
      (two (arithmetic ge e) (arithmetic ge (below e)) (at_least e refl) (at_least (below e) (dot_below v e refl)) (branch_cases (value a e)))
  instance_sound d b (Apart k) cs g i m = let e = i.form in
      subst (AnyMet u a) (sym i.adds)
      (two (arithmetic ge (above e)) (arithmetic ge (below e)) (at_least (above e) (dot_above v e refl)) (at_least (below e) (dot_below v e refl))
      (apart_cases (value a e) (all_at (Meets u a) b k m i.named)))
  instance_sound d b (AConf k) cs g i m = absurd (conf_dead b k cs m i)
  instance_sound d b SConf cs g i m = absurd (clash_dead b d m i.clash)
  instance_sound d b (SProp h x y) cs (hx, hy) i m = subst (AnyMet u a) (sym i.adds) (inl (
    (dot_minus (apply u h x) (apply u h y) (pos 1 ∷ v) (apply_value h x hx) (apply_value h y hy)
        ∙ →_ℤ_zero (ap (value_of h) (sym (node_variable x) ∙ chain_met m i.joined ∙ node_variable y))),
    tt,
  ))
  instance_sound d b (LIntro x) cs g i m = literal_met b len x cs m g i
  instance_sound d b (LValid x) cs g i m =
      subst (AnyMet u a) (sym i)
      (two (is_literal x 0) (arithmetic ge (above (apply u len x))) (λ e. e) (at_least (above (apply u len x)) (above_length x g)) (empty_or_longer (str a x)))
    where
      empty_or_longer : (s : List ℕ) → (s ≡ []) ⊎ (pos 0 ≤ℤ (pos (length s) -ℤ pos 1))
      empty_or_longer [] = inl refl
      empty_or_longer (c ∷ s) = inr (→_ℤ_nonneg (pos_≤ℤ {m = 1} {n = suc (length s)} (omega arith)))
  instance_sound d b (CCollapse x) cs g i m = literal_met b code x cs m g i
  instance_sound d b (CValid x) cs g i m = subst (AnyMet u a) (sym i) (go (one_or_no_code (str a x)))
    where
      one_character : (c : ℕ) → str a x ≡ c ∷ [] → Any (InCodes c) (code_ranges u.n)
      one_character c e = →ranges u.n c (subst (Over u.n) e (f.over x)).0

      -- the child of the range that its code is in
      by_range : (c : ℕ) → str a x ≡ c ∷ [] → (rs : List (ℕ × ℕ)) → Any (InCodes c) rs → AnyMet u a (map (code_child u x) rs)
      by_range c e [] z = absurd z
      by_range c e (r ∷ rs) (inl (low, high)) = inl (
        (above_length x g ∙ →_ℤ_zero (ap (λ s. pos (length s)) e)),
        (
          at_least (less (apply u code x) r.0) (dot_less v (apply u code x) r.0 (apply_value code x g ∙ ap code_of e)) (→_ℤ_nonneg (pos_≤ℤ low)),
          (
            at_least (minus (number (pos r.1)) (apply u code x))
                (dot_minus (number (pos r.1)) (apply u code x) (pos 1 ∷ v) (dot_number v (pos r.1)) (apply_value code x g ∙ ap code_of e))
                (→_ℤ_nonneg (pos_≤ℤ high)),
            tt,
          ),
        ),
      )
      by_range c e (r ∷ rs) (inr i) = inr (by_range c e rs i)

      go : ((c : ℕ) × (str a x ≡ c ∷ [])) ⊎ ((length (str a x) ≢ 1) × (code_of (str a x) ≡ negsuc 0))
          → AnyMet u a (c_valid_children u x)
      go (inr (h, e)) = inl ((λ z. h (pos_injective (-ℤ_zero→ (sym (above_length x g) ∙ z)))), (equals_number code x (negsuc 0) g e, tt))
      go (inl (c, e)) = inr (by_range c e (code_ranges u.n) (one_character c e))
  instance_sound d b (CInj x y) cs (hx, hy) i m = subst (AnyMet u a) (sym i.adds) (go (no_code_or_equal (str a x) (str a y)))
    where
      go : (code_of (str a x) ≡ negsuc 0) ⊎ ((code_of (str a x) ≢ code_of (str a y)) ⊎ (str a x ≡ str a y))
          → AnyMet u a (c_inj_children u x y)
      go (inl e) = inl (equals_number code x (negsuc 0) hx e, tt)
      go (inr (inl h)) =
          inr
          (inl ((λ z. h (-ℤ_zero→ (sym (dot_minus (apply u code x) (apply u code y) (pos 1 ∷ v) (apply_value code x hx) (apply_value code y hy)) ∙ z))), tt))
      go (inr (inr e)) = inr (inr (inl (e, tt)))
  instance_sound d b (Card []) cs g i m = absurd i
  instance_sound d b (Card (x ∷ [])) cs g i m = absurd i
  instance_sound d b (Card (x ∷ y ∷ xs)) cs (g, l) i m = card_met b x (y ∷ xs) cs m g l i
  instance_sound d b (Join j k) cs g i m = subst (AnyMet u a) (sym i.adds) (inl (join_holds v b j k cs (met_arithmetic b m) i, tt))
