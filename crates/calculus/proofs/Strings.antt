-- The strings of a settled leaf: they have the model's lengths and codes, are equal inside a class and different between classes, and with the model's
-- integers they meet every fact of the leaf.
use Prim.Native.Nat.{ℕ, zero, suc, ◌+◌, ◌-◌, ◌^◌, ◌<◌, ◌≤◌}
use native.Mathlib.Omega.{arith}
use native.Mathlib.Decide.{ℕ_discrete, dec_lt}
use mathlib.Core.Path.{◌≡◌, refl, sym, ◌∙◌, ap, ap₂, subst}
use mathlib.Core.Logic.{◌≢◌, ◌⊎◌, inl, inr}
use mathlib.Core.Bool.{Bool, true, false, false≢true}
use mathlib.Core.Option.{Option, none, some}
use mathlib.Core.List.{List, [], ◌∷◌, ◌++◌, map}
use lib.ListN.{length, get_or, take, drop, length-map, length-append, length-drop, get_or-append, get_or-eq_default, take-append-drop}
use lib.Seq.{get_or_at, get_or-take, get_or-drop, ext_get_or, length-take-le}
use lib.Dec.{ltb}
use lib.IntN.{ℤ, pos, negsuc, nat_abs, pos-ne-negsuc}
use borrow.Author.Tests.{lt-ltb, le-ltb}
use Rattle.integers.proofs.Laws.{abs_nonneg}
use Rattle.lists.specs.Lists.{All, Distinct}
use Rattle.lists.proofs.Options.{some_injective, none_some, some_none}
use Rattle.lists.proofs.Lists.{In, in_map, in_append, in_left, in_right, in_at, distinct_at, without, length_without, in_without, at_most, get_d_map, all_get_d}
use Rattle.lists.proofs.Tests.{→true, true→}
use Rattle.calculus.specs.Alphabet.{character_count, Character, Over}
use Rattle.calculus.specs.LinearForms.{eqℤ, value_in}
use Rattle.calculus.specs.Facts.{Question, Fact, same, not_same, is_literal, arithmetic, Branch, Function, len, code, literal, code_of, value_of, Holds}
use Rattle.calculus.specs.Chains.{var_node, lit_node, Edge, AnyEdge, Chain, here, along, OneClass, Counts}
use Rattle.calculus.specs.Classes.{labels, class_literal}
use Rattle.calculus.specs.Instances.{FactAt, Instance}
use Rattle.calculus.specs.Model.{model_value}
use Rattle.calculus.specs.Settled.{Settled, MeetsArithmetic}
use Rattle.calculus.specs.SettledTest.{lowest_variable, lowest_of_length}
use Rattle.calculus.specs.Strings.{word, fresh_from, one_char, fixed_by, fixed_string, fixed_strings, string_of, strings_to, strings}
use Rattle.calculus.specs.Meaning.{Assignment, str, IsAssignment, columns, Meets, Met}
use Rattle.calculus.specs.InRange.{HeadInRange, FactInRange, FactsInRange}
use Rattle.calculus.proofs.LinearForms.{eqℤ→, →eqℤ}
use Rattle.calculus.proofs.Classes.{chain_trans, chain_sym, literal→counts, no_literal, literal_same}
use Rattle.calculus.proofs.Words.{one_or_no_code, length_word, word_over, words, length_words, in_words→, words_distinct, Fresh, fresh, length_fresh}
use Rattle.calculus.proofs.Lowest.{lowest_joined, lowest_le, lowest→class, class→lowest, lowest_lowest, in_lowests, lowests_few}
use Rattle.calculus.proofs.Leaf.{ByClasses, class_value, literal_value, length_nonneg, CodeValid, code_valid, code_injective}
use Rattle.calculus.proofs.Settled.{enough, by_classes}

-- the strings, and the model's integers
abbrev pub answer : Question → Branch → List ℤ → Assignment
answer u b m = record { strs = strings u b m; ints = take u.q m }

-- ---- the strings by variable

module _ (u : Question) (b : Branch) (m : List ℤ) where
  -- the string of the variable x
  abbrev pub S : ℕ → List ℕ
  S x = string_of u b m x (strings_to u b m x)

  pub length_strings : (k : ℕ) → length (strings_to u b m k) ≡ k
  length_strings zero = refl
  length_strings (suc k) =
      let e : length (strings_to u b m k ++ (S k ∷ [])) ≡ length (strings_to u b m k) + 1 = length-append (strings_to u b m k) (S k ∷ []) in
      omega (arith, length_strings k)

  pub strings_at : (k x : ℕ) → x < k → get_or (strings_to u b m k) x [] ≡ S x
  strings_at zero x h = absurd (omega arith)
  strings_at (suc k) x h = go (ℕ_discrete x k) (strings_at k x)
    where
      go : Dec (x ≡ k) → (x < k → get_or (strings_to u b m k) x [] ≡ S x) → get_or (strings_to u b m k ++ (S k ∷ [])) x [] ≡ S x
      go (yes e) ih = get_or_at (strings_to u b m k) (S k) [] [] x (length_strings k ∙ sym e) ∙ ap S (sym e)
      go (no f) ih = get_or-append (strings_to u b m k) (S k ∷ []) [] x (subst (λ n. x < n) (sym (length_strings k)) (omega arith)) ∙ ih (omega arith)

  pub in_strings→ : (k : ℕ) (s : List ℕ) → In s (strings_to u b m k) → (y : ℕ) × (y < k) × (s ≡ S y)
  in_strings→ zero s h = absurd h
  in_strings→ (suc k) s h = go (in_append s (strings_to u b m k) (S k ∷ []) h) (in_strings→ k s)
    where
      go : In s (strings_to u b m k) ⊎ In s (S k ∷ []) → (In s (strings_to u b m k) → (y : ℕ) × (y < k) × (s ≡ S y)) → (y : ℕ) × (y < suc k) × (s ≡ S y)
      go (inl i) ih = let (y, g, e) = ih i in (y, omega arith, e)
      go (inr (inl e)) ih = (k, omega arith, e)
      go (inr (inr z)) ih = absurd z

  pub →in_strings : (k y : ℕ) → y < k → In (S y) (strings_to u b m k)
  →in_strings zero y h = absurd (omega arith)
  →in_strings (suc k) y h = go (ℕ_discrete y k) (→in_strings k y)
    where
      go : Dec (y ≡ k) → (y < k → In (S y) (strings_to u b m k)) → In (S y) (strings_to u b m k ++ (S k ∷ []))
      go (yes e) ih = in_right (S y) (strings_to u b m k) (S k ∷ []) (inl (ap S e))
      go (no f) ih = in_left (S y) (strings_to u b m k) (S k ∷ []) (ih (omega arith))

  abbrev fixed_behind : ℕ → Option (List ℕ) → List (List ℕ)
  fixed_behind k o = elim o as (λ _. List (List ℕ)) [ some s ↦ s ∷ fixed_strings u b m k | none ↦ fixed_strings u b m k ]

  pub in_fixed→ : (k : ℕ) (s : List ℕ) → In s (fixed_strings u b m k) → (y : ℕ) × (y < k) × (fixed_string u b m y ≡ some s)
  in_fixed→ zero s h = absurd h
  in_fixed→ (suc k) s h = go (fixed_string u b m k) refl h (in_fixed→ k s)
    where
      go : (o : Option (List ℕ))
          → fixed_string u b m k ≡ o
          → In s (fixed_behind k o)
          → (In s (fixed_strings u b m k) → (y : ℕ) × (y < k) × (fixed_string u b m y ≡ some s))
          → (y : ℕ) × (y < suc k) × (fixed_string u b m y ≡ some s)
      go (some t) e (inl p) ih = (k, omega arith, e ∙ ap some (sym p))
      go (some t) e (inr i) ih = let (y, g, q) = ih i in (y, omega arith, q)
      go none e i ih = let (y, g, q) = ih i in (y, omega arith, q)

  pub →in_fixed : (k y : ℕ) (s : List ℕ) → y < k → fixed_string u b m y ≡ some s → In s (fixed_strings u b m k)
  →in_fixed zero y s h e = absurd (omega arith)
  →in_fixed (suc k) y s h e = go (ℕ_discrete y k) (→in_fixed k y s)
    where
      behind : (o : Option (List ℕ)) → In s (fixed_strings u b m k) → In s (fixed_behind k o)
      behind (some t) i = inr i
      behind none i = i

      go : Dec (y ≡ k) → (y < k → fixed_string u b m y ≡ some s → In s (fixed_strings u b m k)) → In s (fixed_behind k (fixed_string u b m k))
      go (yes p) ih = subst (λ o. In s (fixed_behind k o)) (sym e ∙ ap (fixed_string u b m) p) (inl refl)
      go (no f) ih = behind (fixed_string u b m k) (ih (omega arith) e)

  abbrev pub L : ℕ → ℕ
  L x = nat_abs (model_value u m len x)

  -- what is given before the string of x
  abbrev pub before : ℕ → List (List ℕ)
  before x = fixed_strings u b m u.p ++ strings_to u b m x

  abbrev chosen : ℕ → Option (List ℕ) → Bool → List ℕ
  chosen x o t =
      elim o as (λ _. List ℕ) [
        | some s ↦ s
        | none ↦
            elim t as (λ _. List ℕ) [ true ↦ get_or (strings_to u b m x) (lowest_variable (labels b) x) [] | false ↦ fresh_from u.p u.n (L x) (before x) 0 ]
      ]

  pub SFixed : (x : ℕ) (s : List ℕ) → fixed_string u b m x ≡ some s → S x ≡ s
  SFixed x s e = ap (λ o. chosen x o (ltb (lowest_variable (labels b) x) x)) e

  pub SCopied : (x : ℕ) → fixed_string u b m x ≡ none → lowest_variable (labels b) x < x → S x ≡ S (lowest_variable (labels b) x)
  SCopied x e h = ap₂ (chosen x) e (lt-ltb (lowest_variable (labels b) x) x h) ∙ strings_at x (lowest_variable (labels b) x) h

  pub SNew : (x : ℕ) → fixed_string u b m x ≡ none → lowest_variable (labels b) x ≡ x → S x ≡ fresh_from u.p u.n (L x) (before x) 0
  SNew x e h = ap₂ (chosen x) e (le-ltb (lowest_variable (labels b) x) x (omega arith))

-- ---- a settled leaf

module _ (u : Question) (w : HeadInRange u) (b : Branch) (r : FactsInRange u b) (m : List ℤ) (settled : Settled u b m) where
  abbrev pub M : Function → ℕ → ℤ
  M f x = model_value u m f x

  abbrev pub low : ℕ → ℕ
  low x = lowest_variable (labels b) x

  abbrev pub string : ℕ → List ℕ
  string x = S u b m x

  abbrev pub fixed : ℕ → Option (List ℕ)
  fixed x = fixed_string u b m x

  held : ByClasses u b m
  held = by_classes u w b r m settled

  low_below : (x : ℕ) → x < u.p → low x < u.p
  low_below x h = omega (arith, lowest_le b x)

  -- ---- one class, one string

  fixed_class : (x y : ℕ) → x < u.p → y < u.p → OneClass b x y → fixed x ≡ fixed y
  fixed_class x y h g c =
      ap (λ o. fixed_by u o (M len x) (M code x)) (literal_same u w b r x y c)
      ∙ ap₂ (fixed_by u (class_literal u b y)) (class_value u b m held len x y h g c) (class_value u b m held code x y h g c)

  string_low : (x : ℕ) → x < u.p → string x ≡ string (low x)
  string_low x h = go (fixed x) refl (dec_lt (low x) x)
    where
      go : (o : Option (List ℕ)) → fixed x ≡ o → Dec (low x < x) → string x ≡ string (low x)
      go (some s) e d = SFixed u b m x s e ∙ sym (SFixed u b m (low x) s (sym (fixed_class x (low x) h (low_below x h) (lowest_joined b x)) ∙ e))
      go none e (yes g) = SCopied u b m x e g
      go none e (no f) = ap string (let e : x ≡ low x = omega (arith, lowest_le b x) in e)

  string_class : (x y : ℕ) → x < u.p → y < u.p → OneClass b x y → string x ≡ string y
  string_class x y h g c = string_low x h ∙ ap string (class→lowest u w b r x y c) ∙ sym (string_low y g)

  -- ---- lengths and codes are the model's

  -- a class with a literal, or of length 1
  abbrev pub Fixed : ℕ → List ℕ → Type 0
  Fixed x s = ((l : ℕ) × Counts u b x l × (literal u l ≡ s)) ⊎ ((c : ℕ) × (s ≡ c ∷ []) × (M len x ≡ pos 1) × (M code x ≡ pos c) × Character u.n c)

  one_character : (x : ℕ) (s : List ℕ)
      → x < u.p
      → (t : Bool)
      → eqℤ (M len x) (pos 1) ≡ t
      → one_char t (M code x) ≡ some s
      → (c : ℕ) × (s ≡ c ∷ []) × (M len x ≡ pos 1) × (M code x ≡ pos c) × Character u.n c
  one_character x s h false q k = absurd (none_some k)
  one_character x s h true q k = go (code_valid u b m held w.alphabet x h)
    where
      go : CodeValid u b m held x → (c : ℕ) × (s ≡ c ∷ []) × (M len x ≡ pos 1) × (M code x ≡ pos c) × Character u.n c
      go (inl (f, _)) = absurd (f (eqℤ→ (M len x) (pos 1) (true→ q)))
      go (inr (p, (c, e, g))) = (c, sym (some_injective k) ∙ ap (λ z. nat_abs z ∷ []) e, p, e, g)

  pub fixed→ : (x : ℕ) (s : List ℕ) → x < u.p → fixed x ≡ some s → Fixed x s
  fixed→ x s h e = go (class_literal u b x) refl e
    where
      go : (o : Option ℕ) → class_literal u b x ≡ o → fixed_by u o (M len x) (M code x) ≡ some s → Fixed x s
      go (some l) p k = inl (l, literal→counts u w b r x p, some_injective k)
      go none p k = inr (one_character x s h (eqℤ (M len x) (pos 1)) refl k)

  pub not_fixed→ : (x : ℕ) → fixed x ≡ none → M len x ≢ pos 1
  not_fixed→ x e p = go (class_literal u b x) e
    where
      char : (t : Bool) → t ≡ true → one_char t (M code x) ≡ none → ⊥
      char true q k = some_none k
      char false q k = false≢true q

      go : (o : Option ℕ) → fixed_by u o (M len x) (M code x) ≡ none → ⊥
      go (some l) k = some_none k
      go none k = char (eqℤ (M len x) (pos 1)) (→true (eqℤ (M len x) (pos 1)) (→eqℤ p)) k

  -- the string s has the values that the model has for x
  abbrev Values : ℕ → List ℕ → Type 0
  Values x s = (f : Function) → M f x ≡ value_of f s

  values_fixed : (x : ℕ) (s : List ℕ) → x < u.p → Fixed x s → Values x s
  values_fixed x s h (inl (l, c, e)) f = literal_value u b m held f x l h c ∙ ap (value_of f) e
  values_fixed x s h (inr (c, e, p, q, g)) len = p ∙ ap (value_of len) (sym e)
  values_fixed x s h (inr (c, e, p, q, g)) code = q ∙ ap (value_of code) (sym e)

  pub length_is : (x : ℕ) → x < u.p → M len x ≡ pos (L u b m x)
  length_is x h = abs_nonneg (M len x) (length_nonneg u b m held x h)

  values_new : (x : ℕ) (s : List ℕ) → x < u.p → fixed x ≡ none → length s ≡ L u b m x → Values x s
  values_new x s h e g = by
    where
      size : M len x ≡ pos (length s)
      size = length_is x h ∙ ap pos (sym g)

      no_code : CodeValid u b m held x → M code x ≡ negsuc 0
      no_code (inl (f, p)) = p
      no_code (inr (p, _)) = absurd (not_fixed→ x e p)

      code_is : ((c : ℕ) × (s ≡ c ∷ [])) ⊎ ((length s ≢ 1) × (code_of s ≡ negsuc 0)) → M code x ≡ code_of s
      code_is (inl (c, p)) = absurd (not_fixed→ x e (size ∙ ap (value_of len) p))
      code_is (inr (f, p)) = no_code (code_valid u b m held w.alphabet x h) ∙ sym p

      by : Values x s
      by len = size
      by code = code_is (one_or_no_code s)

  values_low : (x : ℕ) → x < u.p → low x ≡ x → Values x (string x)
  values_low x h l = go (fixed x) refl
    where
      go : (o : Option (List ℕ)) → fixed x ≡ o → Values x (string x)
      go (some s) e = subst (Values x) (sym (SFixed u b m x s e)) (values_fixed x s h (fixed→ x s h e))
      go none e = values_new x (string x) h e (ap length (SNew u b m x e l) ∙ length_fresh u.p u.n (L u b m x) (before u b m x) 0)

  values : (x : ℕ) → x < u.p → Values x (string x)
  values x h f =
      let g = low_below x h in
      class_value u b m held f x (low x) h g (lowest_joined b x) ∙ values_low (low x) g (lowest_lowest u w b r x) f ∙ ap (value_of f) (sym (string_low x h))

  -- ---- a new class finds a string

  -- the lowest variables of the classes of the length of x
  abbrev of_length : ℕ → List ℕ
  of_length x = lowest_of_length u (labels b) m (M len x) u.p

  in_length : (x y : ℕ) → y < u.p → M len y ≡ M len x → In (low y) (of_length x)
  in_length x y h e =
      in_lowests u (labels b) m (M len x) u.p (low y)
      (low_below y h, sym (class_value u b m held len y (low y) h (low_below y h) (lowest_joined b y)) ∙ e, lowest_lowest u w b r y)

  module _ (x : ℕ) (h : x < u.p) (e : fixed x ≡ none) (l : low x ≡ x) where
    itself : In x (of_length x)
    itself = subst (λ z. In z (of_length x)) l (in_length x x h refl)

    -- the strings of the other classes of that length
    others : List (List ℕ)
    others = map string (without x (of_length x) itself)

    in_others : (s : List ℕ) (y : ℕ) → length s ≡ L u b m x → y < u.p → s ≡ string y → low y ≢ x → In s others
    unfolding others
    in_others s y k g p d = subst (λ t. In t (map string (without x (of_length x) itself))) (sym (string_low y g) ∙ sym p)
        (in_map string (low y) (without x (of_length x) itself)
        (in_without x (low y) (of_length x) itself d (in_length x y g (values y g len ∙ ap (λ t. pos (length t)) (sym p) ∙ ap pos k ∙ sym (length_is x h)))))

    given_others : (s : List ℕ) → length s ≡ L u b m x → In s (before u b m x) → In s others
    given_others s k i = go (in_append s (fixed_strings u b m u.p) (strings_to u b m x) i)
      where
        go : In s (fixed_strings u b m u.p) ⊎ In s (strings_to u b m x) → In s others
        go (inl j) = let (y, g, q) = in_fixed→ u b m u.p s j in
            in_others s y k g (sym (SFixed u b m y s q)) (λ d. some_none (sym q ∙ fixed_class y x g h (subst (OneClass b y) d (lowest_joined b y)) ∙ e))
        go (inr j) = let (y, g, q) = in_strings→ u b m x s j in in_others s y k (omega arith) q (λ d. omega (arith, lowest_le b y))

    some_left : ((i : ℕ) → i < length (of_length x) → In (word u.n (L u b m x) i) (before u b m x)) → ⊥
    unfolding others
    some_left f =
        let k = length (of_length x) in
        let a : length (words u.n (L u b m x) k) ≤ length (map string (without x (of_length x) itself)) =
        at_most (words u.n (L u b m x) k) others (words_distinct u.n (L u b m x) k w.alphabet (enough u w b r m settled x)) given in
        let c : length (map string (without x (of_length x) itself)) ≡ length (without x (of_length x) itself) =
        length-map (without x (of_length x) itself) string in
        let d : length (words u.n (L u b m x) k) ≡ k = length_words u.n (L u b m x) k in
        let g : k ≡ suc (length (without x (of_length x) itself)) = length_without x (of_length x) itself in
        omega arith
      where
        given : (s : List ℕ) → In s (words u.n (L u b m x) (length (of_length x))) → In s others
        given s i = let (j, g, q) = in_words→ u.n (L u b m x) (length (of_length x)) s i in
            given_others s (ap length q ∙ length_word u.n (L u b m x) j) (subst (λ t. In t (before u b m x)) (sym q) (f j g))

    -- it is over the alphabet and not given, and the words before it are
    abbrev NewString : Type 0
    NewString = Over u.n (string x) × (In (string x) (before u b m x) → ⊥)
        × ((j : ℕ) × (string x ≡ word u.n (L u b m x) j) × ((i : ℕ) → i < j → In (word u.n (L u b m x) i) (before u b m x)))

    pub new_string : NewString
    new_string = go (subst (Fresh u.n (L u b m x) (before u b m x) u.p) (sym (SNew u b m x e l)) (fresh u.p u.n (L u b m x) (before u b m x)))
      where
        go : Fresh u.n (L u b m x) (before u b m x) u.p (string x) → NewString
        go (inr f) = absurd (some_left (λ i g. f i (omega (arith, lowests_few u (labels b) m (M len x) u.p))))
        go (inl (j, q, f, k)) =
            (subst (Over u.n) (sym q) (word_over u.n (L u b m x) j w.alphabet (below (dec_lt j (length (of_length x))))), f, (j, q, k))
          where
            below : Dec (j < length (of_length x)) → j < character_count u.n ^ L u b m x
            below (yes g) = omega (arith, enough u w b r m settled x)
            below (no g) = absurd (some_left (λ i a. k i (omega arith)))

  -- ---- different classes, different strings

  module _ (differ : Distinct ([] ∷ u.literals)) where
    one_number : (l k : ℕ) → l ≤ length u.literals → k ≤ length u.literals → literal u l ≡ literal u k → l ≡ k
    one_number l k h g e = go (ℕ_discrete l k)
      where
        go : Dec (l ≡ k) → l ≡ k
        go (yes p) = p
        go (no f) = absurd (distinct_at [] ([] ∷ u.literals) l k differ (omega arith) (omega arith) f e)

    same_literal : (x y l k : ℕ) → Counts u b x l → Counts u b y k → literal u l ≡ literal u k → OneClass b x y
    same_literal x y l k c d e =
        chain_trans c.held (subst (λ z. Chain b (lit_node z) (var_node y)) (sym (one_number l k c.defined d.defined e)) (chain_sym d.held))

    lowest_differ : (x y : ℕ) → x < u.p → y < u.p → low x ≡ x → low y ≡ y → x ≢ y → string x ≢ string y
    lowest_differ x y h g lx ly d e = by_code (one_or_no_code (string x))
      where
        apart_classes : OneClass b x y → ⊥
        apart_classes c = d (sym lx ∙ class→lowest u w b r x y c ∙ ly)

        codes : M code x ≡ M code y
        codes = values x h code ∙ ap code_of e ∙ sym (values y g code)

        injected : (c : ℕ) → M code x ≡ pos c → (M code x ≡ negsuc 0) ⊎ ((M code x ≢ M code y) ⊎ OneClass b x y) → ⊥
        injected c p (inl q) = pos-ne-negsuc c 0 (sym p ∙ q)
        injected c p (inr (inl q)) = q codes
        injected c p (inr (inr q)) = apart_classes q

        literals : (s t : List ℕ) → length s ≢ 1 → s ≡ t → Fixed x s → Fixed y t → ⊥
        literals s t f p (inl (l, c, q)) (inl (k, c', q')) = apart_classes (same_literal x y l k c c' (q ∙ p ∙ sym q'))
        literals s t f p (inr (c, q, _, _, _)) k = f (ap length q)
        literals s t f p (inl l) (inr (c, q, _, _, _)) = f (ap length p ∙ ap length q)

        by_kind : length (string x) ≢ 1 → (o q : Option (List ℕ)) → fixed x ≡ o → fixed y ≡ q → ⊥
        by_kind f (some s) (some t) p q = let sx = SFixed u b m x s p in let sy = SFixed u b m y t q in
            literals s t (λ i. f (ap length sx ∙ i)) (sym sx ∙ e ∙ sy) (fixed→ x s h p) (fixed→ y t g q)
        by_kind f (some s) none p q =
            (new_string y g q ly).1 (in_left (string y) (fixed_strings u b m u.p) (strings_to u b m y)
            (→in_fixed u b m u.p x (string y) h (p ∙ ap some (sym (SFixed u b m x s p) ∙ e))))
        by_kind f none (some t) p q =
            (new_string x h p lx).1 (in_left (string x) (fixed_strings u b m u.p) (strings_to u b m x)
            (→in_fixed u b m u.p y (string x) g (q ∙ ap some (sym (SFixed u b m y t q) ∙ sym e))))
        by_kind f none none p q = order (dec_lt x y)
          where
            order : Dec (x < y) → ⊥
            order (yes i) =
                (new_string y g q ly).1
                (in_right (string y) (fixed_strings u b m u.p) (strings_to u b m y) (subst (λ s. In s (strings_to u b m y)) e (→in_strings u b m y x i)))
            order (no i) =
                (new_string x h p lx).1 (in_right (string x) (fixed_strings u b m u.p) (strings_to u b m x)
                (subst (λ s. In s (strings_to u b m x)) (sym e) (→in_strings u b m x y (omega arith))))

        by_code : ((c : ℕ) × (string x ≡ c ∷ [])) ⊎ ((length (string x) ≢ 1) × (code_of (string x) ≡ negsuc 0)) → ⊥
        by_code (inl (c, p)) = injected c (values x h code ∙ ap code_of p) (code_injective u b m held x y h g d)
        by_code (inr (f, p)) = by_kind f (fixed x) (fixed y) refl refl

    classes_differ : (x y : ℕ) → x < u.p → y < u.p → (OneClass b x y → ⊥) → string x ≢ string y
    classes_differ x y h g d e =
        lowest_differ (low x) (low y) (low_below x h) (low_below y g) (lowest_lowest u w b r x) (lowest_lowest u w b r y) (λ k. d (lowest→class b x y k))
        (sym (string_low x h) ∙ e ∙ string_low y g)

    -- ---- the assignment

    module _ (over : All (Over u.n) u.literals) (size : length m ≡ u.q + (u.p + u.p)) where
      string_over : (x : ℕ) → x < u.p → Over u.n (string x)
      string_over x h = subst (Over u.n) (sym (string_low x h)) (go (fixed (low x)) refl)
        where
          kind : (s : List ℕ) → Fixed (low x) s → Over u.n s
          kind s (inl (l, c, q)) = subst (Over u.n) q (all_get_d (Over u.n) ([] ∷ u.literals) l [] tt (tt, over))
          kind s (inr (c, p, _, _, g)) = subst (Over u.n) (sym p) (g, tt)

          go : (o : Option (List ℕ)) → fixed (low x) ≡ o → Over u.n (string (low x))
          go (some s) e = subst (Over u.n) (sym (SFixed u b m (low x) s e)) (kind s (fixed→ (low x) s (low_below x h) e))
          go none e = (new_string (low x) (low_below x h) e (lowest_lowest u w b r x)).0

      str_is : (x : ℕ) → x < u.p → str (answer u b m) x ≡ string x
      str_is x h = strings_at u b m u.p x h

      answer_for : IsAssignment u (answer u b m)
      answer_for = record { strings = length_strings u b m u.p; integers = length-take-le u.q m (omega arith); over = λ x. go x (dec_lt x u.p) }
        where
          go : (x : ℕ) → Dec (x < u.p) → Over u.n (str (answer u b m) x)
          go x (yes h) = subst (Over u.n) (sym (str_is x h)) (string_over x h)
          go x (no f) = subst (Over u.n) (sym (get_or-eq_default (strings_to u b m u.p) [] (omega (arith, length_strings u b m u.p)))) tt

      -- the values of the strings are a stretch of the model
      stretch : (f : Function) (l : List ℤ)
          → length l ≡ u.p
          → ((x : ℕ) → x < u.p → model_value u m f x ≡ get_or l x (pos 0))
          → map (value_of f) (strings u b m) ≡ l
      stretch f l e h = ext_get_or (pos 0) (map (value_of f) (strings u b m)) l (long ∙ sym e) (λ x k. go x (subst (λ n. x < n) long k))
        where
          long : length (map (value_of f) (strings u b m)) ≡ u.p
          long = length-map (strings u b m) (value_of f) ∙ length_strings u b m u.p

          go : (x : ℕ) → x < u.p → get_or (map (value_of f) (strings u b m)) x (pos 0) ≡ get_or l x (pos 0)
          go x k =
              get_d_map (value_of f) (strings u b m) x [] (pos 0) (subst (λ n. x < n) (sym (length_strings u b m u.p)) k)
              ∙ ap (value_of f) (str_is x k)
              ∙ sym (values x k f)
              ∙ h x k

      columns_are : columns (answer u b m) ≡ m
      columns_are = ap (λ l. take u.q m ++ l) (ap₂ ◌++◌ lengths codes ∙ take-append-drop u.p (drop u.q m)) ∙ take-append-drop u.q m
        where
          behind : length (drop u.q m) ≡ u.p + u.p
          behind = let e : length (drop u.q m) ≡ length m - u.q = length-drop u.q m in omega arith

          lengths : map (value_of len) (strings u b m) ≡ take u.p (drop u.q m)
          lengths =
              stretch len (take u.p (drop u.q m)) (length-take-le u.p (drop u.q m) (omega (arith, behind)))
              (λ x k. sym (get_or-take u.p (drop u.q m) x (pos 0) k ∙ get_or-drop u.q m x (pos 0)))

          codes : map (value_of code) (strings u b m) ≡ drop u.p (drop u.q m)
          codes =
              stretch code (drop u.p (drop u.q m))
              (let e : length (drop u.p (drop u.q m)) ≡ length (drop u.q m) - u.p = length-drop u.p (drop u.q m) in omega (arith, behind))
              (λ x k. sym (get_or-drop u.p (drop u.q m) x (pos 0) ∙ get_or-drop u.q m (u.p + x) (pos 0)))

      -- ---- every fact of the leaf is met

      joined : (c : Branch) (k : ℕ) (f : Fact) (i j : ℕ) → FactAt c k f → Edge f i j → AnyEdge c i j
      joined [] k f i j h e = absurd (none_some h)
      joined (g ∷ c) zero f i j h e = inl (subst (λ g. Edge g i j) (sym (some_injective h)) e)
      joined (g ∷ c) (suc k) f i j h e = inr (joined c k f i j h e)

      string_literal : (x l : ℕ) → l ≤ length u.literals → Chain b (var_node x) (lit_node l) → string x ≡ literal u l
      unfolding Instance
      string_literal x l h c = go (class_literal u b x) refl
        where
          one_literal : (k : ℕ) → Counts u b x k → Dec (k ≡ l) → k ≡ l
          one_literal k d (yes p) = p
          one_literal k d (no f) = absurd (settled.no_conflict [] (record {
            clash =
                inl
                (record { first = k; second = l; first_defined = d.defined; second_defined = h; different = f; joined = chain_trans (chain_sym d.held) c });
            closes = refl;
          }))

          go : (o : Option ℕ) → class_literal u b x ≡ o → string x ≡ literal u l
          go none e = absurd (no_literal u w b r x e l h c)
          go (some k) e =
              SFixed u b m x (literal u k) (ap (λ o. fixed_by u o (M len x) (M code x)) e)
              ∙ ap (literal u) (one_literal k (literal→counts u w b r x e) (ℕ_discrete k l))

      meets : (k : ℕ) (f : Fact) → FactAt b k f → FactInRange u f → MeetsArithmetic m f → Meets u (answer u b m) f
      unfolding Instance
      meets k (same x y) h (hx, hy) a =
          str_is x hx ∙ string_class x y hx hy (along (joined b k (same x y) (var_node x) (var_node y) h (refl, refl)) here) ∙ sym (str_is y hy)
      meets k (not_same x y) h (hx, hy) a =
          λ e. classes_differ x y hx hy
          (λ c. settled.no_conflict [] (record { clash = inr (record { left = x; right = y; stands = (k, h); joined = c }); closes = refl }))
          (sym (str_is x hx) ∙ e ∙ str_is y hy)
      meets k (is_literal x l) h (hx, hl) a =
          str_is x hx ∙ string_literal x l hl (along (joined b k (is_literal x l) (var_node x) (lit_node l) h (refl, refl)) here)
      meets k (arithmetic s e) h n a = subst (Holds s) (sym (ap (λ v. value_in v e) columns_are)) a

      all_met : (c : Branch) → ((f : Fact) → In f c → In f b) → FactsInRange u c → All (MeetsArithmetic m) c → Met u (answer u b m) c
      all_met [] i g a = tt
      all_met (f ∷ c) i (g, gs) (a, as') = (let (k, h) = in_at f b (i f (inl refl)) in meets k f h g a, all_met c (λ f j. i f (inr j)) gs as')

-- ---- the theorem

-- what the strings of a leaf are, with the model's integers
pub record Answers (u : Question) (b : Branch) (m : List ℤ) (a : Assignment) : Type 0 where
  pub for_question : IsAssignment u a
  pub values : (f : Function) (x : ℕ) → x < u.p → value_of f (str a x) ≡ model_value u m f x
  pub equal : (x y : ℕ) → x < u.p → y < u.p → OneClass b x y → str a x ≡ str a y
  pub differ : (x y : ℕ) → x < u.p → y < u.p → (OneClass b x y → ⊥) → str a x ≢ str a y
  pub met : Met u a b

pub strings_answer : (u : Question) → HeadInRange u → Distinct ([] ∷ u.literals) → All (Over u.n) u.literals → (b : Branch) → FactsInRange u b
    → (m : List ℤ) → length m ≡ u.q + (u.p + u.p) → All (MeetsArithmetic m) b → Settled u b m → Answers u b m (answer u b m)
strings_answer u w d over b r m size kept settled = record {
  for_question = answer_for u w b r m settled d over size;
  values = λ f x h. ap (value_of f) (str_is u w b r m settled d over size x h) ∙ sym (values u w b r m settled x h f);
  equal = λ x y h g c. str_is u w b r m settled d over size x h ∙ string_class u w b r m settled x y h g c ∙ sym (str_is u w b r m settled d over size y g);
  differ = λ x y h g f e. classes_differ u w b r m settled d x y h g f (sym (str_is u w b r m settled d over size x h) ∙ e ∙ str_is u w b r m settled d over size y g);
  met = all_met u w b r m settled d over size b (λ f i. i) r kept;
}
