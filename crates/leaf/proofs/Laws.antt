-- Laws of the tests by values, and of loops over variables.
use mathlib.Core.Path.{◌≡◌, refl, sym, ◌∙◌, ap, ap₂}
use mathlib.Core.Bool.{Bool, true, false, not, cond, ◌&&◌, ◌||◌, and_assoc, or-true, or-false}
use mathlib.Core.Option.{Option, none, some}
use mathlib.Core.List.{List, [], ◌∷◌}
use Prim.Native.Nat.{ℕ, zero, suc, ◌+◌, ◌-◌, ◌^◌, ◌≤◌, ◌<◌}
use native.Mathlib.Omega.{arith}
use native.Mathlib.Numerals.{add-one}
use borrow.Author.Tests.{le-leb, lt-leb, leb-true, leb-false}
use lib.ListN.{length, get_or, length-append}
use lib.Dec.{eqb, leb}
use lib.IntN.{ℤ, pos, negsuc, nat_abs}
use lib.Signed.{lt_z}
use Rattle.std.specs.List.{filter, range_with_len}
use Rattle.std.proofs.lemmas.List.Elements.{filter-append}
use Rattle.lists.proofs.Library.{range_more}
use Rattle.lists.specs.Lists.{any, all_below}
use Rattle.lists.proofs.Tests.{true→}
use Rattle.calculus.specs.Alphabet.{character_count}
use Rattle.calculus.specs.LinearForms.{eqℤ}
use Rattle.calculus.specs.Facts.{Question, Branch, code_of, column_count, literal, len, code}
use Rattle.calculus.specs.Chains.{var_node, lit_node}
use Rattle.calculus.specs.Classes.{labels, same_class, literal_in, conflict, clash}
use Rattle.calculus.specs.Rules.{least_power}
use Rattle.calculus.specs.Model.{model_value}
use Rattle.calculus.specs.SettledTest.{lowest_variable, lowest_of_length, settled_card}
use Rattle.calculus.proofs.Alphabet.{count_is, ranges_are}
use Rattle.calculus.proofs.Powers.{least_power_law}
use Rattle.calculus.proofs.Lowest.{lowests_few}
use Rattle.format.specs.Places.{skip, literals_from}
use Rattle.format.specs.StepForms.{function_of}
use Rattle.records.specs.Placed.{Placed}
use Rattle.classes.proofs.Laws.{literal_below}
use Rattle.question.specs.declared.Progress.{Progress}
use Rattle.question.specs.Columns.{column_at}
use Rattle.question.specs.Posed.{asked, numbered, Posed}
use Rattle.question.proofs.Posed.{literal_count, literal_in_law, literals_to}
use Rattle.leaf.specs.Leaf.{LiteralsAt}
use Rattle.leaf.specs.Values.{text_fits, literal_fits, l_valid_fits, code_in, code_by, code_fits, roomy, var_fits, pair_by, pair_fits}

-- ---- tests of a variable

pub text_no : (t : List ℕ) (z c : ℤ) → eqℤ z (pos (length t)) ≡ false → text_fits t z c ≡ false
unfolding text_fits
text_no t z c e = rw e

pub text_yes : (t : List ℕ) (z c : ℤ) → eqℤ z (pos (length t)) ≡ true → text_fits t z c ≡ eqℤ c (code_of t)
unfolding text_fits
text_yes t z c e = rw e

module _ (u : Question) (z c : ℤ) where
  pub literal_some : (o : Option ℕ) (l : ℕ) → o ≡ some l → literal_fits u o z c ≡ text_fits (literal u l) z c
  unfolding literal_fits
  literal_some o l e = rw e

  pub literal_none : (o : Option ℕ) → o ≡ none → literal_fits u o z c ≡ true
  unfolding literal_fits
  literal_none o e = rw e

module _ (ls : List ℕ) (x : ℕ) (z : ℤ) where
  pub length_empty : same_class ls (var_node x) (lit_node 0) ≡ true → l_valid_fits ls x z ≡ true
  unfolding l_valid_fits
  length_empty e = ap (λ (t : Bool). t || lt_z (pos 0) z) e

  pub length_other : same_class ls (var_node x) (lit_node 0) ≡ false → l_valid_fits ls x z ≡ lt_z (pos 0) z
  unfolding l_valid_fits
  length_other e = ap (λ (t : Bool). t || lt_z (pos 0) z) e

module _ (n : ℕ) (z : ℤ) where
  pub code_character : (k : ℕ) → eqℤ z (pos 1) ≡ true → code_fits n z (pos k) ≡ leb k (n - 1)
  unfolding code_by
  code_character k e =
      ap (λ (t : Bool). code_by t n (pos k)) e
      ∙ ap (any (code_in (pos k))) (ranges_are n)
      ∙ or-false (leb 0 k && leb k (n - 1)) ∙ ap (λ (t : Bool). t && leb k (n - 1)) (le-leb 0 k (omega arith))

  pub code_negative : (k : ℕ) → eqℤ z (pos 1) ≡ true → code_fits n z (negsuc k) ≡ false
  unfolding code_by
  code_negative k e = ap (λ (t : Bool). code_by t n (negsuc k)) e ∙ ap (any (code_in (negsuc k))) (ranges_are n)

  pub code_longer : (c : ℤ) → eqℤ z (pos 1) ≡ false → code_fits n z c ≡ eqℤ c (negsuc 0)
  unfolding code_by
  code_longer c e = ap (λ (t : Bool). code_by t n c) e

-- ---- tests of a pair

module _ (z w c d : ℤ) where
  pub pair_lengths : (s : Bool) → s ≡ true → eqℤ z w ≡ false → pair_by s z w c d ≡ false
  unfolding pair_by
  pair_lengths s e h = rw (e, h)

  pub pair_codes : (s : Bool) → s ≡ true → eqℤ z w ≡ true → pair_by s z w c d ≡ eqℤ c d
  unfolding pair_by
  pair_codes s e h = rw (e, h)

  pub pair_no_code : (s : Bool) → s ≡ false → eqℤ c (negsuc 0) ≡ true → pair_by s z w c d ≡ true
  unfolding pair_by
  pair_no_code s e h = rw (e, h)

  pub pair_other_class : (s : Bool) → s ≡ false → eqℤ c (negsuc 0) ≡ false → pair_by s z w c d ≡ not (eqℤ c d)
  unfolding pair_by
  pair_other_class s e h = rw (e, h)

-- ---- counting classes

module _ (u : Question) (ls : List ℕ) (m : List ℤ) (z : ℤ) where
  abbrev pub is_lowest : ℕ → Bool
  is_lowest y = eqℤ (model_value u m len y) z && eqb (lowest_variable ls y) y

  pub classes_counted : (k : ℕ) → length (filter is_lowest (range_with_len 0 k)) ≡ length (lowest_of_length u ls m z k)
  classes_counted zero = refl
  classes_counted (suc k) =
      ap (λ (l : List ℕ). length (filter is_lowest l)) (range_more 0 k k (omega arith))
      ∙ ap length (filter-append is_lowest (range_with_len 0 k) (k ∷ []))
      ∙ length-append (filter is_lowest (range_with_len 0 k)) (filter is_lowest (k ∷ []))
      ∙ go (is_lowest k) (classes_counted k)
    where
      go : (t : Bool)
          → length (filter is_lowest (range_with_len 0 k)) ≡ length (lowest_of_length u ls m z k)
          → length (filter is_lowest (range_with_len 0 k)) + length (cond t (k ∷ []) [])
          ≡ length {A = ℕ} (elim t as (λ _. List ℕ) [ true ↦ k ∷ lowest_of_length u ls m z k | false ↦ lowest_of_length u ls m z k ])
      go true e = omega arith
      go false e = omega arith

-- Card's bound
pub room_unary : (n k size : ℕ) → n ≤ 1 → roomy n k size ≡ false
unfolding roomy
room_unary n k size h = rw (le-leb n 1 h)

pub room_by : (n k size : ℕ) → 1 < n → roomy n k size ≡ leb (least_power k n k 0) size
unfolding roomy
room_by n k size h = rw (lt-leb n 1 h)

-- room for p strings is room for fewer
room_fewer : (n p k size : ℕ) → k ≤ p → roomy n p size ≡ true → roomy n k size ≡ true
room_fewer n p k size h e = go (leb n 1) refl
  where
    go : (t : Bool) → leb n 1 ≡ t → roomy n k size ≡ true
    go true f = absurd (true→ (sym (room_unary n p size (leb-true n 1 f)) ∙ e))
    go false f =
        let l : 1 < n = leb-false n 1 f in
        let a : least_power p n p 0 ≤ size = leb-true (least_power p n p 0) size (sym (room_by n p size l) ∙ e) in
        let b : p ≤ n ^ least_power p n p 0 = (least_power_law n p l).reaches in
        let c : least_power k n k 0 ≤ least_power p n p 0 = (least_power_law n k l).least (least_power p n p 0) (omega arith) in
        room_by n k size l ∙ le-leb (least_power k n k 0) size (omega arith)

-- Card, by the count k of the classes of the length of x
module _ (u : Question) (ls : List ℕ) (m : List ℤ) (x k : ℕ) (e : k ≡ length (lowest_of_length u ls m (model_value u m len x) u.p)) where
  counted : settled_card u ls m x ≡ (leb k 1 || roomy u.n k (nat_abs (model_value u m len x)))
  unfolding roomy
  counted =
      ap₂ (λ (i n : ℕ). leb i 1 || roomy n i (nat_abs (model_value u m len x))) (sym e) (count_is u.n)

  pub card_few : k ≤ 1 → settled_card u ls m x ≡ true
  card_few h = counted ∙ rw (le-leb k 1 h)

  pub card_many : 1 < k → settled_card u ls m x ≡ roomy u.n k (nat_abs (model_value u m len x))
  card_many h = counted ∙ rw (lt-leb k 1 h)

-- no count is needed where there is room for a string of each variable
pub card_roomy : (u : Question) (ls : List ℕ) (m : List ℤ) (x : ℕ) → roomy u.n u.p (nat_abs (model_value u m len x)) ≡ true → settled_card u ls m x ≡ true
card_roomy u ls m x e =
    let k = length (lowest_of_length u ls m (model_value u m len x) u.p) in
    counted u ls m x k refl
    ∙ ap (λ (t : Bool). leb k 1 || t) (room_fewer u.n u.p k (nat_abs (model_value u m len x)) (lowests_few u ls m (model_value u m len x) u.p) e)
    ∙ or-true (leb k 1)

-- ---- what is said of a question by its numbers

-- the column of a function of a variable is there, and has its value
pub column_there : (s : Progress) (f x : ℕ) → x < s.p → column_at s.p s.q f x < column_count (numbered s)
unfolding column_at
column_there s zero x h = omega arith
column_there s (suc f) x h = omega arith

pub column_value : (s : Progress) (f x : ℕ) (m : List ℤ) → get_or m (column_at s.p s.q f x) (pos 0) ≡ model_value (numbered s) m (function_of f) x
unfolding column_at
column_value s zero x m = refl
column_value s (suc f) x m = refl

-- the literal of the class of a variable is one of the question's, and stands in the bytes
module _ (b : List ℕ) (s : Progress) (ls : List ℕ) (x l : ℕ) (e : literal_in (asked b s) ls x ≡ some l) where
  pub literal_known : l ≤ s.literals
  literal_known = omega (arith, literal_below ls x (s.literals + 1) l (sym (literal_in_law b s ls x) ∙ e))

  -- it and those before it stand within the bytes, at their places
  pub literal_placed : {places : List ℕ} → Posed b s → LiteralsAt b places s
      → (skip b l literals_from ≤ length b) × (Placed b literals_from l places × (l < length places))
  literal_placed h p = (literals_to h l literal_known, (λ y g. p.placed y (omega (arith, literal_known)), omega (arith, p.enough, literal_known)))

-- the tests without literals do not read the bytes
module _ (b : List ℕ) (s : Progress) (ls : List ℕ) (m : List ℤ) where
  lowest_any : (z : ℤ) (k : ℕ) → lowest_of_length (numbered s) ls m z k ≡ lowest_of_length (asked b s) ls m z k
  unfolding asked
  lowest_any z zero = refl
  lowest_any z (suc k) =
      ap (λ (l : List ℕ). elim (eqℤ (model_value (numbered s) m len k) z && eqb (lowest_variable ls k) k) as (λ _. List ℕ) [ true ↦ k ∷ l | false ↦ l ])
      (lowest_any z k)

  pub card_any : (x : ℕ) → settled_card (numbered s) ls m x ≡ settled_card (asked b s) ls m x
  unfolding asked roomy
  card_any x =
      ap (λ (l : List ℕ). leb (length l) 1
      || roomy (character_count s.n) (length l) (nat_abs (model_value (numbered s) m len x)))
      (lowest_any (model_value (numbered s) m len x) s.p)

  pub pairs_any : (x : ℕ) → all_below x (pair_fits (numbered s) ls m x) ≡ all_below x (pair_fits (asked b s) ls m x)
  unfolding asked pair_fits
  pairs_any x = refl

-- ---- the rules of one variable

-- the four tests, one after the other
module _ (u : Question) (ls : List ℕ) (m : List ℤ) (x : ℕ) where
  abbrev z : ℤ
  z = model_value u m len x

  abbrev c : ℤ
  c = model_value u m code x

  abbrev pub from_literal : Bool
  from_literal = literal_fits u (literal_in u ls x) z c

  pub var_all : var_fits u ls m x ≡ (((from_literal && l_valid_fits ls x z) && code_fits u.n z c) && settled_card u ls m x)
  unfolding var_fits
  var_all =
      sym (and_assoc from_literal (l_valid_fits ls x z) (code_fits u.n z c && settled_card u ls m x))
      ∙ sym (and_assoc (from_literal && l_valid_fits ls x z) (code_fits u.n z c) (settled_card u ls m x))

-- ---- S-Conf

pub conflict_is : (t : List ℕ) (s : Progress) (ls : List ℕ) (b : Branch) → ls ≡ labels b → clash (s.literals + 1) ls b ≡ conflict (asked t s) b
conflict_is t s ls b e = ap₂ (λ (m : ℕ) (l : List ℕ). clash m l b) (add-one s.literals ∙ ap suc (sym (literal_count t s))) e
