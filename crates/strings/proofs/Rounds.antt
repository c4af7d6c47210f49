-- The third round: the table has the calculus' strings for the variables passed, and what the first two rounds gave for the others.
use Prim.Native.Nat.{ℕ, zero, suc, ◌+◌, ◌*◌, ◌≤◌, ◌<◌}
use native.Mathlib.Omega.{arith}
use native.Mathlib.Decide.{ℕ_discrete, dec_lt}
use mathlib.Core.Path.{◌≡◌, refl, sym, ◌∙◌, ap, subst}
use mathlib.Core.Logic.{◌⊎◌, inl, inr}
use mathlib.Core.Option.{Option, none, some}
use mathlib.Core.List.{List, [], ◌++◌}
use lib.ListN.{length, get_or, set, drop}
use lib.Seq.{sets, ext_get_or, get_or-set_same, get_or-set_other, take_all}
use lib.IntN.{ℤ, nat_abs}
use Rattle.answer.proofs.Written.{length_tables}
use Rattle.lists.proofs.Options.{some_injective, none_some}
use Rattle.lists.proofs.Tests.{equal_tests}
use Rattle.lists.proofs.Lists.{In, in_append, in_left, in_right, get_d_up_to}
use Rattle.calculus.specs.Limits.{length_limit}
use Rattle.calculus.specs.Facts.{Question, Branch, len}
use Rattle.calculus.specs.Classes.{labels}
use Rattle.calculus.specs.Model.{model_value}
use Rattle.calculus.specs.SettledTest.{lowest_variable}
use Rattle.calculus.specs.Strings.{given, fixed_string, fixed_strings, strings_to, strings}
use Rattle.calculus.proofs.Lowest.{lowest_le}
use Rattle.calculus.proofs.Strings.{S, length_strings, strings_at, in_strings→, →in_strings, in_fixed→, →in_fixed, SFixed, SCopied, SNew}
use Rattle.calculus.proofs.Words.{given→, →given}
use Rattle.answer.specs.Table.{row, table_strings}
use Rattle.strings.specs.Filling.{string_in, before, given_strings, fixed_at, completed}
use Rattle.strings.proofs.Table.{sized_some, some_sized, stored_there, stored_passed, completed_own, completed_copied, completed_fresh}
use Rattle.strings.proofs.Words.{fresh_same}

-- ---- the strings that are given, by variable

module _ (characters sizes : List ℕ) where
  in_before→ : (o : Option (List ℕ)) (ss : List (List ℕ)) (w : List ℕ) → In w (before o ss) → (o ≡ some w) ⊎ In w ss
  unfolding before
  in_before→ none ss w i = inr i
  in_before→ (some s) ss w (inl e) = inl (ap some (sym e))
  in_before→ (some s) ss w (inr i) = inr i

  →in_before : (o : Option (List ℕ)) (ss : List (List ℕ)) (w : List ℕ) → (o ≡ some w) ⊎ In w ss → In w (before o ss)
  unfolding before
  →in_before none ss w (inl e) = absurd (none_some e)
  →in_before none ss w (inr i) = i
  →in_before (some s) ss w (inl e) = inl (sym (some_injective e))
  →in_before (some s) ss w (inr i) = inr i

  in_given→ : (p : ℕ) (w : List ℕ) → In w (given_strings characters sizes p) → (y : ℕ) × (y < p) × (string_in characters sizes y ≡ some w)
  unfolding given_strings
  in_given→ zero w i = absurd i
  in_given→ (suc p) w i = go (in_before→ (string_in characters sizes p) (given_strings characters sizes p) w i) (in_given→ p w)
    where
      go : (string_in characters sizes p ≡ some w) ⊎ In w (given_strings characters sizes p)
          → (In w (given_strings characters sizes p) → (y : ℕ) × (y < p) × (string_in characters sizes y ≡ some w))
          → (y : ℕ) × (y < suc p) × (string_in characters sizes y ≡ some w)
      go (inl e) ih = (p, omega arith, e)
      go (inr j) ih = let (y, h, e) = ih j in (y, omega arith, e)

  →in_given : (p y : ℕ) (w : List ℕ) → y < p → string_in characters sizes y ≡ some w → In w (given_strings characters sizes p)
  unfolding given_strings
  →in_given zero y w h e = absurd (omega arith)
  →in_given (suc p) y w h e = →in_before (string_in characters sizes p) (given_strings characters sizes p) w (go (ℕ_discrete y p) (→in_given p y w))
    where
      go : Dec (y ≡ p)
          → (y < p → string_in characters sizes y ≡ some w → In w (given_strings characters sizes p))
          → (string_in characters sizes p ≡ some w) ⊎ In w (given_strings characters sizes p)
      go (yes k) ih = inl (ap (string_in characters sizes) (sym k) ∙ e)
      go (no k) ih = inr (ih (omega arith) e)

-- ---- the table in the third round

module _ (u : Question) (b : Branch) (m : List ℤ) where
  -- the first x variables have their strings, the others what the first two rounds gave
  pub record Filled (characters sizes : List ℕ) (x : ℕ) : Type 0 where
    pub passed : (y : ℕ) → y < x → string_in characters sizes y ≡ some (S u b m y)
    pub ahead : (y : ℕ) → x ≤ y → y < u.p → string_in characters sizes y ≡ fixed_string u b m y

  abbrev before_x : ℕ → List (List ℕ)
  before_x x = fixed_strings u b m u.p ++ strings_to u b m x

  -- before the third round
  pub round_start : (ls characters sizes : List ℕ)
      → ls ≡ labels b
      → ((y : ℕ) → y < u.p → string_in characters sizes y ≡ fixed_at u ls m y)
      → Filled characters sizes 0
  round_start ls characters sizes e h = record {
    passed = λ y g. absurd (no_number y g);
    ahead = λ y g k. h y k ∙ ap (λ (l : List ℕ). fixed_at u l m y) e;
  }
    where
      no_number : (y : ℕ) → y < 0 → ⊥
      no_number y g = omega arith

  module _ (characters sizes : List ℕ) (x : ℕ) (h : x < u.p) (f : Filled characters sizes x) where
    abbrev low : ℕ
    low = lowest_variable (labels b) x

    abbrev l : ℕ
    l = nat_abs (model_value u m len x)

    -- the strings of the table are those that are given before x gets its own
    given_is : (w : List ℕ) → given w (given_strings characters sizes u.p) ≡ given w (before_x x)
    given_is w = equal_tests (given w (given_strings characters sizes u.p)) (given w (before_x x))
        (λ t. →given w (before_x x) (there (in_given→ characters sizes u.p w (given→ w (given_strings characters sizes u.p) t))))
        (λ t. →given w (given_strings characters sizes u.p) (back (in_append w (fixed_strings u b m u.p) (strings_to u b m x) (given→ w (before_x x) t))))
      where
        there : (y : ℕ) × (y < u.p) × (string_in characters sizes y ≡ some w) → In w (before_x x)
        there (y, g, e) = go (dec_lt y x)
          where
            go : Dec (y < x) → In w (before_x x)
            go (yes k) =
                in_right w (fixed_strings u b m u.p) (strings_to u b m x)
                (subst (λ s. In s (strings_to u b m x)) (some_injective (sym (f.passed y k) ∙ e)) (→in_strings u b m x y k))
            go (no k) = in_left w (fixed_strings u b m u.p) (strings_to u b m x) (→in_fixed u b m u.p y w g (sym (f.ahead y (omega arith) g) ∙ e))

        from_fixed : (y : ℕ) → y < u.p → fixed_string u b m y ≡ some w → Dec (y < x) → string_in characters sizes y ≡ some w
        from_fixed y g e (yes k) = f.passed y k ∙ ap some (SFixed u b m y w e)
        from_fixed y g e (no k) = f.ahead y (omega arith) g ∙ e

        back : In w (fixed_strings u b m u.p) ⊎ In w (strings_to u b m x) → In w (given_strings characters sizes u.p)
        back (inl i) = let (y, g, e) = in_fixed→ u b m u.p w i in →in_given characters sizes u.p y w g (from_fixed y g e (dec_lt y x))
        back (inr i) = let (y, g, e) = in_strings→ u b m x w i in →in_given characters sizes u.p y w (omega arith) (f.passed y g ∙ ap some (sym e))

    pub completed_is : completed u.n u.p (labels b) l characters sizes x ≡ S u b m x
    completed_is = go (fixed_string u b m x) refl (dec_lt low x)
      where
        here : string_in characters sizes x ≡ fixed_string u b m x
        here = f.ahead x (omega arith) h

        go : (o : Option (List ℕ)) → fixed_string u b m x ≡ o → Dec (low < x) → completed u.n u.p (labels b) l characters sizes x ≡ S u b m x
        go (some s) e d = completed_own u.n u.p (labels b) l characters sizes x s (here ∙ e) ∙ sym (SFixed u b m x s e)
        go none e (yes k) =
            completed_copied u.n u.p (labels b) l characters sizes x (here ∙ e) k
            ∙ (some_sized (get_or sizes low 0) (drop (length_limit * low) characters) (S u b m low) (f.passed low k)).1
            ∙ sym (SCopied u b m x e k)
        go none e (no k) =
            completed_fresh u.n u.p (labels b) l characters sizes x (here ∙ e) (omega arith)
            ∙ fresh_same u.n l u.p (given_strings characters sizes u.p) (before_x x) 0 given_is
            ∙ sym (SNew u b m x e (let g : low ≤ x = lowest_le b x in omega arith))

    -- the string s is stored
    pub round_more : (size : ℕ) (s : List ℕ) → size ≡ length s → size ≤ length_limit → u.p ≤ length sizes → length_limit * u.p ≤ length characters
        → s ≡ S u b m x → Filled (sets characters (length_limit * x) s) (set sizes x size) (x + 1)
    round_more size s n short inside room e = record {
      passed = stored_passed characters sizes x size s (omega arith) (λ _. omega arith) (omega arith) (omega arith) (λ y. some (S u b m y)) f.passed
          (sized_some size s short ∙ ap some (take_all size s (omega arith) ∙ e));
      ahead =
          λ y g k. stored_there characters sizes x size s (omega arith) (λ _. omega arith) (omega arith) (omega arith) y (λ q. omega arith) (omega arith)
          ∙ f.ahead y (omega arith) k;
    }

-- ---- the whole table

table_at : (characters sizes : List ℕ) (p y : ℕ) → y < p → get_or (table_strings characters sizes p) y [] ≡ row characters y (get_or sizes y 0)
unfolding table_strings
table_at characters sizes p y h = get_d_up_to (λ y. row characters y (get_or sizes y 0)) p y [] h

module _ (u : Question) (b : Branch) (m : List ℤ) (characters sizes : List ℕ) (f : Filled u b m characters sizes u.p) where
  pub round_done : table_strings characters sizes u.p ≡ strings u b m
  round_done =
      ext_get_or [] (table_strings characters sizes u.p) (strings u b m) (length_tables characters sizes u.p ∙ sym (length_strings u b m u.p))
      (λ y h. at y (rw length_tables at h))
    where
      at : (y : ℕ) → y < u.p → get_or (table_strings characters sizes u.p) y [] ≡ get_or (strings u b m) y []
      at y h =
          table_at characters sizes u.p y h
          ∙ (some_sized (get_or sizes y 0) (drop (length_limit * y) characters) (S u b m y) (f.passed y h)).1
          ∙ sym (strings_at u b m u.p y h)

-- ---- sizes and lengths

pub sizes_more : (sizes : List ℕ) (x size : ℕ) → x < length sizes → ((y : ℕ) → y < x → get_or sizes y 0 ≤ length_limit) → size ≤ length_limit
    → (y : ℕ) → y < x + 1 → get_or (set sizes x size) y 0 ≤ length_limit
sizes_more sizes x size inside h l y k = go (ℕ_discrete y x)
  where
    go : Dec (y ≡ x) → get_or (set sizes x size) y 0 ≤ length_limit
    go (yes e) = omega (arith, ap (λ (i : ℕ). get_or (set sizes x size) i 0) e, get_or-set_same sizes x size 0 inside)
    go (no n) = omega (arith, get_or-set_other sizes x y size 0 n, h y (omega arith))
