-- The strings of an accepted leaf are given as document 01 words it: by literals, by codes, and then the smallest by code points that is not yet given.
use Prim.Native.Nat.{ℕ, zero, suc, ◌+◌, ◌*◌, ◌/◌, ◌%◌, ◌^◌, ◌<◌, ◌≤◌}
use native.Mathlib.Omega.{arith}
use native.Mathlib.Decide.{ℕ_discrete, dec_lt}
use native.Mathlib.Nat.{div-add-mod, div-lt_iff_lt-mul, div-mul-le_self, one-le-pow}
use mathlib.Core.Path.{◌≡◌, refl, sym, ◌∙◌, ap, subst}
use mathlib.Core.Logic.{◌≢◌, ◌⊎◌, inl, inr}
use mathlib.Core.Bool.{Bool, true, false, false≢true}
use mathlib.Core.Option.{Option, none, some}
use mathlib.Core.List.{List, [], ◌∷◌}
use lib.ListN.{length}
use lib.IntN.{ℤ, pos, negsuc, nat_abs}
use Rattle.lists.specs.Lists.{All, Distinct}
use Rattle.lists.proofs.Options.{some_none}
use Rattle.lists.proofs.Lists.{In, in_append, in_left, in_right}
use Rattle.lists.proofs.Tests.{→true, true→}
use Rattle.calculus.specs.Alphabet.{character_count, character, Character, Over}
use Rattle.calculus.specs.LinearForms.{eqℤ}
use Rattle.calculus.specs.Facts.{Question, Branch, len, code, literal, code_of, value_of}
use Rattle.calculus.specs.Chains.{Counts}
use Rattle.calculus.specs.Classes.{labels, class_literal}
use Rattle.calculus.specs.Model.{model_value}
use Rattle.calculus.specs.Settled.{Settled, MeetsArithmetic}
use Rattle.calculus.specs.SettledTest.{lowest_variable}
use Rattle.calculus.specs.Strings.{word, one_char, fixed_by, fixed_string, fixed_strings, strings_to}
use Rattle.calculus.specs.Meaning.{Assignment, str}
use Rattle.calculus.specs.Extended.{Precedes, equal, smaller}
use Rattle.calculus.specs.Given.{Smallest, Free, Lowest, GivenBefore, to_literal, to_one, to_lower, Other, GivenStrings}
use Rattle.calculus.specs.InRange.{HeadInRange, FactsInRange}
use Rattle.calculus.proofs.Alphabet.{some_character, character_rising}
use Rattle.calculus.proofs.LinearForms.{eqℤ→, →eqℤ}
use Rattle.calculus.proofs.Classes.{literal→counts, counts→literal}
use Rattle.calculus.proofs.Words.{one_or_no_code, length_word, place, word_place}
use Rattle.calculus.proofs.Extended.{precedes_behind, precedes_both}
use Rattle.calculus.proofs.Lowest.{lowest_joined, lowest_le, class→lowest}
use Rattle.calculus.proofs.Strings.{answer, S, strings_at, in_strings→, →in_strings, in_fixed→, →in_fixed, L, before, SFixed}
use Rattle.calculus.proofs.Strings.{Fixed, fixed→, not_fixed→, length_is, new_string, strings_answer}

-- ---- the words of one length stand in order

quotients_rise : (i j k : ℕ) → 1 ≤ k → i ≤ j → i / k ≤ j / k
quotients_rise i j k positive h = go (dec_lt (j / k) (i / k))
  where
    go : Dec (j / k < i / k) → i / k ≤ j / k
    go (yes g) = absurd (let low : j < i / k * k = (div-lt_iff_lt-mul positive).0 g in omega (arith, div-mul-le_self i k))
    go (no f) = omega arith

-- two numbers by their quotients and rests
data InOrder (k i j : ℕ) : Type 0 where
  quotients : i / k < j / k → InOrder k i j
  rests : i / k ≡ j / k → i % k ≤ j % k → InOrder k i j

in_order_by : (k i j : ℕ) → 1 ≤ k → i ≤ j → InOrder k i j
in_order_by k i j positive h = go (ℕ_discrete (i / k) (j / k))
  where
    go : Dec (i / k ≡ j / k) → InOrder k i j
    go (yes e) =
        let first : k * (i / k) + i % k ≡ i = div-add-mod i k in
        let second : k * (j / k) + j % k ≡ j = div-add-mod j k in
        let same : k * (i / k) ≡ k * (j / k) = ap (λ q. k * q) e in
        rests e (omega arith)
    go (no f) = quotients (omega (arith, quotients_rise i j k positive h))

words_in_order : (n l i j : ℕ) → 0 < n → i ≤ j → Precedes (word n l i) (word n l j)
words_in_order n zero i j z h = equal refl
words_in_order n (suc l) i j z h =
    let k : ℕ = character_count n ^ l in
    go k (in_order_by k i j (one-le-pow l (character_count n) (some_character n z)) h) (λ g. words_in_order n l (i % k) (j % k) z g)
  where
    go : (k : ℕ) → InOrder k i j → (i % k ≤ j % k → Precedes (word n l (i % k)) (word n l (j % k)))
        → Precedes (character n (i / k) ∷ word n l (i % k)) (character n (j / k) ∷ word n l (j % k))
    go k (quotients g) ih =
        smaller [] (character n (i / k)) (character n (j / k)) (word n l (i % k)) (word n l (j % k)) refl refl (character_rising n (i / k) (j / k) g)
    go k (rests e g) ih = precedes_behind (ap (character n) e) (ih g)

-- ---- what is given before a class

module _ (u : Question) (w : HeadInRange u) (b : Branch) (r : FactsInRange u b) (m : List ℤ) (settled : Settled u b m) where
  abbrev Before : ℕ → List ℕ → Type 0
  Before = GivenBefore u b m (answer u b m)

  given_is : (x : ℕ) → x < u.p → str (answer u b m) x ≡ S u b m x
  given_is x h = strings_at u b m u.p x h

  fixed_there : (y : ℕ) (s : List ℕ) → y < u.p → fixed_string u b m y ≢ none → s ≡ str (answer u b m) y → In s (fixed_strings u b m u.p)
  fixed_there y s h f e = go (fixed_string u b m y) refl
    where
      go : (o : Option (List ℕ)) → fixed_string u b m y ≡ o → In s (fixed_strings u b m u.p)
      go none q = absurd (f q)
      go (some t) q = →in_fixed u b m u.p y s h (q ∙ ap some (sym (e ∙ given_is y h ∙ SFixed u b m y t q)))

  fixed_literal : (x l : ℕ) → Counts u b x l → fixed_string u b m x ≡ some (literal u l)
  fixed_literal x l c = ap (λ o. fixed_by u o (model_value u m len x) (model_value u m code x)) (counts→literal u w b r x l c)

  before→ : (x : ℕ) (s : List ℕ) → x < u.p → Before x s → In s (before u b m x)
  before→ x s h (to_literal y l g c e) =
      in_left s (fixed_strings u b m u.p) (strings_to u b m x) (fixed_there y s g (λ z. some_none (sym (fixed_literal y l c) ∙ z)) e)
  before→ x s h (to_one y g p e) =
      in_left s (fixed_strings u b m u.p) (strings_to u b m x) (fixed_there y s g (λ z. not_fixed→ u w b r m settled y z p) e)
  before→ x s h (to_lower y g e) =
      in_right s (fixed_strings u b m u.p) (strings_to u b m x)
      (subst (λ t. In t (strings_to u b m x)) (sym (e ∙ given_is y (omega arith))) (→in_strings u b m x y g))

  →before : (x : ℕ) (s : List ℕ) → x < u.p → In s (before u b m x) → Before x s
  →before x s h i = go (in_append s (fixed_strings u b m u.p) (strings_to u b m x) i)
    where
      kind : (y : ℕ) → y < u.p → s ≡ str (answer u b m) y → Fixed u w b r m settled y s → Before x s
      kind y g e (inl (l, c, _)) = to_literal y l g c e
      kind y g e (inr (c, _, p, _, _)) = to_one y g p e

      go : In s (fixed_strings u b m u.p) ⊎ In s (strings_to u b m x) → Before x s
      go (inl j) = let (y, g, q) = in_fixed→ u b m u.p s j in kind y g (sym (given_is y g ∙ SFixed u b m y s q)) (fixed→ u w b r m settled y s g q)
      go (inr j) = let (y, g, q) = in_strings→ u b m x s j in to_lower y g (q ∙ sym (given_is y (omega arith)))

  -- ---- each other class

  not_fixed : (x : ℕ) → Other u b m x → fixed_string u b m x ≡ none
  not_fixed x o = go (class_literal u b x) refl
    where
      char : (t : Bool) → eqℤ (model_value u m len x) (pos 1) ≡ t → one_char t (model_value u m code x) ≡ none
      char true e = absurd (o.not_one (eqℤ→ (model_value u m len x) (pos 1) (true→ e)))
      char false e = refl

      go : (l : Option ℕ) → class_literal u b x ≡ l → fixed_by u l (model_value u m len x) (model_value u m code x) ≡ none
      go (some l) e = absurd (o.no_literal l (literal→counts u w b r x e))
      go none e = char (eqℤ (model_value u m len x) (pos 1)) refl

  is_lowest : (x : ℕ) → Lowest b x → lowest_variable (labels b) x ≡ x
  is_lowest x l = go (dec_lt (lowest_variable (labels b) x) x)
    where
      go : Dec (lowest_variable (labels b) x < x) → lowest_variable (labels b) x ≡ x
      go (yes h) = absurd (l (lowest_variable (labels b) x) h (lowest_joined b x))
      go (no f) = omega (arith, lowest_le b x)

  module _ (x : ℕ) (h : x < u.p) (o : Other u b m x) where
    abbrev Candidate : List ℕ → Type 0
    Candidate = Free u.n (model_value u m len x) (Before x)

    -- a word that is not given stands at or after the first one
    behind : (j : ℕ) → ((i : ℕ) → i < j → In (word u.n (L u b m x) i) (before u b m x)) → (t : List ℕ) → Candidate t → Precedes (word u.n (L u b m x) j) t
    behind j k t f = go (dec_lt (place u.n t) j)
      where
        is_word : word u.n (L u b m x) (place u.n t) ≡ t
        is_word = ap (λ l. word u.n l (place u.n t)) (sym (ap nat_abs f.of_length)) ∙ word_place u.n t f.over

        go : Dec (place u.n t < j) → Precedes (word u.n (L u b m x) j) t
        go (yes g) = absurd (f.not_given (→before x t h (subst (λ s. In s (before u b m x)) is_word (k (place u.n t) g))))
        go (no g) = subst (Precedes (word u.n (L u b m x) j)) is_word (words_in_order u.n (L u b m x) j (place u.n t) w.alphabet (omega arith))

    in_order : Smallest Candidate (str (answer u b m) x)
    in_order =
        let (over, free, (j, q, k)) = new_string u w b r m settled x h (not_fixed x o) (is_lowest x o.lowest) in
        record {
          one_of_them = record {
            over = subst (Over u.n) (sym (given_is x h)) over;
            of_length = ap (λ s. pos (length s)) (given_is x h ∙ q) ∙ ap pos (length_word u.n (L u b m x) j) ∙ sym (length_is u w b r m settled x h);
            not_given = λ g. free (subst (λ s. In s (before u b m x)) (given_is x h) (before→ x (str (answer u b m) x) h g));
          };
          least = λ t f. subst (λ s. Precedes s t) (sym (given_is x h ∙ q)) (behind j k t f);
        }

-- ---- the theorem

-- a string of length 1 is the character of its code
one_character : (n : ℕ) (s : List ℕ) (z c : ℤ) → Over n s → value_of len s ≡ z → value_of code s ≡ c → z ≡ pos 1 → (k : ℕ) × Character n k × (c ≡ pos k) × (s ≡ k ∷ [])
one_character n s z c over size codes e = go (one_or_no_code s)
  where
    go : ((k : ℕ) × (s ≡ k ∷ [])) ⊎ ((length s ≢ 1) × (code_of s ≡ negsuc 0)) → (k : ℕ) × Character n k × (c ≡ pos k) × (s ≡ k ∷ [])
    go (inl (k, q)) = (k, (subst (Over n) q over).0, sym codes ∙ ap code_of q, q)
    go (inr (f, _)) = absurd (f (ap nat_abs (size ∙ e)))

pub strings_given : (u : Question) → HeadInRange u → Distinct ([] ∷ u.literals) → All (Over u.n) u.literals → (b : Branch) → FactsInRange u b
    → (m : List ℤ) → length m ≡ u.q + (u.p + u.p) → All (MeetsArithmetic m) b → Settled u b m → GivenStrings u b m (answer u b m)
strings_given u w d over b r m size kept settled =
    let a = strings_answer u w d over b r m size kept settled in
    record {
      one_string = a.equal;
      by_literal = λ x l h c. given_is u w b r m settled x h ∙ SFixed u b m x (literal u l) (fixed_literal u w b r m settled x l c);
      by_code = λ x h e. one_character u.n (str (answer u b m) x) (model_value u m len x) (model_value u m code x) (a.for_question.over x) (a.values len x h)
          (a.values code x h) e;
      by_order = in_order u w b r m settled;
      values = a.values;
    }

-- ---- the words leave no choice

module _ (u : Question) (w : HeadInRange u) (b : Branch) (r : FactsInRange u b) (m : List ℤ) where
  -- the variable y gets its string before x does
  abbrev Served : ℕ → ℕ → Type 0
  Served x y = (y < x) ⊎ ((model_value u m len y ≡ pos 1) ⊎ ((l : ℕ) × Counts u b y l))

  module _ (a c : Assignment) (x : ℕ) (same : (y : ℕ) → y < u.p → Served x y → str a y ≡ str c y) where
    before_same : (s : List ℕ) → x < u.p → GivenBefore u b m c x s → GivenBefore u b m a x s
    before_same s h (to_literal y l g k e) = to_literal y l g k (e ∙ sym (same y g (inr (inr (l, k)))))
    before_same s h (to_one y g p e) = to_one y g p (e ∙ sym (same y g (inr (inl p))))
    before_same s h (to_lower y g e) = to_lower y g (e ∙ sym (same y (omega arith) (inl g)))

    free_same : (s : List ℕ) → x < u.p → Free u.n (model_value u m len x) (GivenBefore u b m a x) s → Free u.n (model_value u m len x) (GivenBefore u b m c x) s
    free_same s h f = record { over = f.over; of_length = f.of_length; not_given = λ g. f.not_given (before_same s h g) }

  module _ (a c : Assignment) (g : GivenStrings u b m a) (k : GivenStrings u b m c) where
    same_literal : (x l : ℕ) → x < u.p → Counts u b x l → str a x ≡ str c x
    same_literal x l h n = g.by_literal x l h n ∙ sym (k.by_literal x l h n)

    same_one : (x : ℕ) → x < u.p → model_value u m len x ≡ pos 1 → str a x ≡ str c x
    same_one x h p =
        let (i, _, e, q) = g.by_code x h p in
        let (j, _, f, s) = k.by_code x h p in
        q ∙ ap (λ z. nat_abs z ∷ []) (sym e ∙ f) ∙ sym s

    same_other : (x : ℕ) → x < u.p → ((y : ℕ) → y < x → str a y ≡ str c y) → Other u b m x → str a x ≡ str c x
    same_other x h ih o =
        let s = g.by_order x h o in
        let t = k.by_order x h o in
        precedes_both (str a x) (str c x) (s.least (str c x) (free_same c a x back (str c x) h t.one_of_them))
        (t.least (str a x) (free_same a c x there (str a x) h s.one_of_them))
      where
        there : (y : ℕ) → y < u.p → Served x y → str a y ≡ str c y
        there y h (inl i) = ih y i
        there y h (inr (inl p)) = same_one y h p
        there y h (inr (inr (l, n))) = same_literal y l h n

        back : (y : ℕ) → y < u.p → Served x y → str c y ≡ str a y
        back y h i = sym (there y h i)

    same_step : (x : ℕ) → x < u.p → ((y : ℕ) → y < x → str a y ≡ str c y) → str a x ≡ str c x
    same_step x h ih = by_literal (class_literal u b x) refl
      where
        by_class_law : class_literal u b x ≡ none → model_value u m len x ≢ pos 1 → Dec (lowest_variable (labels b) x < x) → str a x ≡ str c x
        by_class_law e f (yes i) =
            g.one_string x (lowest_variable (labels b) x) h (omega arith) (lowest_joined b x)
            ∙ ih (lowest_variable (labels b) x) i
            ∙ sym (k.one_string x (lowest_variable (labels b) x) h (omega arith) (lowest_joined b x))
        by_class_law e f (no i) = same_other x h ih (record {
          lowest = λ y j n. omega (arith, lowest_le b x, lowest_le b y, class→lowest u w b r x y n);
          no_literal = λ l n. some_none (sym (counts→literal u w b r x l n) ∙ e);
          not_one = f;
        })

        by_length : class_literal u b x ≡ none → (t : Bool) → eqℤ (model_value u m len x) (pos 1) ≡ t → str a x ≡ str c x
        by_length e true q = same_one x h (eqℤ→ (model_value u m len x) (pos 1) (true→ q))
        by_length e false q = by_class_law e (λ p. false≢true (sym q ∙ →true (eqℤ (model_value u m len x) (pos 1)) (→eqℤ p))) (dec_lt (lowest_variable (labels b) x) x)

        by_literal : (o : Option ℕ) → class_literal u b x ≡ o → str a x ≡ str c x
        by_literal (some l) e = same_literal x l h (literal→counts u w b r x e)
        by_literal none e = by_length e (eqℤ (model_value u m len x) (pos 1)) refl

    same_below : (n x : ℕ) → x < n → x < u.p → str a x ≡ str c x
    same_below zero x i h = absurd (omega arith)
    same_below (suc n) x i h = same_step x h (λ y j. same_below n y (omega arith) (omega arith))

    -- strings given in these words are the same
    pub given_once : (x : ℕ) → x < u.p → str a x ≡ str c x
    given_once x h = same_below (suc x) x (omega arith) h
