-- The table of strings: one is stored and the others stay, and which strings are given.
use Prim.Native.Nat.{ℕ, zero, suc, ◌+◌, ◌-◌, ◌*◌, ◌≤◌, ◌<◌}
use native.Mathlib.Omega.{arith}
use native.Mathlib.Decide.{dec_lt, ℕ_discrete}
use mathlib.Core.Path.{◌≡◌, refl, sym, ◌∙◌, ap, ap₂}
use mathlib.Core.Logic.{◌≢◌}
use mathlib.Core.Bool.{Bool, true, false, cond, ◌||◌}
use mathlib.Core.Option.{Option, none, some}
use mathlib.Core.List.{List, [], ◌∷◌, ◌++◌, append_assoc}
use borrow.Author.Tests.{le-leb, lt-leb, leb-true, leb-false, lt-ltb, le-ltb}
use lib.Dec.{leb, ltb}
use lib.ListN.{length, get_or, take, drop, set, length-drop, take-append-drop}
use lib.Seq.{paste, sets, sets-eq, length-sets, length-take-le, take-append-le, drop_at}
use lib.Seq.{drop-drop, ext_get_or, get_or-take, get_or-drop, get_or-set_same, get_or-set_other}
use lib.IntN.{ℤ, pos}
use Rattle.answer.proofs.Written.{length_row}
use Rattle.lists.specs.Lists.{any_below}
use Rattle.lists.proofs.Options.{none_some, some_injective}
use Rattle.calculus.specs.Limits.{length_limit}
use Rattle.calculus.specs.LinearForms.{eqℤ}
use Rattle.calculus.specs.Facts.{Question, literal, len, code}
use Rattle.calculus.specs.Classes.{literal_in}
use Rattle.calculus.specs.Model.{model_value}
use Rattle.calculus.specs.SettledTest.{lowest_variable}
use Rattle.calculus.specs.Strings.{given, fresh_from, one_char, fixed_by}
use Rattle.answer.specs.Table.{row}
use Rattle.strings.specs.Filling.{sized, string_in, before, given_strings, is_it, fixed_at, completed}

-- ---- a string by its size

module _ (k : ℕ) (l : List ℕ) where
  pub sized_some : k ≤ length_limit → sized k l ≡ some (take k l)
  unfolding sized
  sized_some h = ap (λ (t : Bool). cond t (some (take k l)) none) (le-leb k length_limit h)

  pub sized_none : length_limit < k → sized k l ≡ none
  unfolding sized
  sized_none h = ap (λ (t : Bool). cond t (some (take k l)) none) (lt-leb k length_limit h)

  pub some_sized : (s : List ℕ) → sized k l ≡ some s → (k ≤ length_limit) × (take k l ≡ s)
  some_sized s e = go (leb k length_limit) refl
    where
      go : (t : Bool) → leb k length_limit ≡ t → (k ≤ length_limit) × (take k l ≡ s)
      go true f = let h : k ≤ length_limit = leb-true k length_limit f in (h, some_injective (sym (sized_some h) ∙ e))
      go false f = absurd (none_some (sym (sized_none (leb-false k length_limit f)) ∙ e))

-- ---- stores

-- the first character alone
pub first_put : (l : List ℕ) (c : ℕ) → 1 ≤ length l → take 1 (set l 0 c) ≡ c ∷ []
first_put [] c h = absurd (omega arith)
first_put (x ∷ []) c h = refl
first_put (x ∷ y ∷ l) c h = refl

-- a place outside the run is kept
behind : (w b : List ℕ) (at i : ℕ) → at + length w ≤ i → get_or (sets b at w) i 0 ≡ get_or b i 0
behind [] b at i h = refl
behind (x ∷ w) b at i h = behind w (set b at x) (suc at) i (omega arith) ∙ get_or-set_other b at i x 0 (λ e. omega arith)

ahead : (w b : List ℕ) (at i : ℕ) → i < at → get_or (sets b at w) i 0 ≡ get_or b i 0
ahead [] b at i l = refl
ahead (x ∷ w) b at i l = ahead w (set b at x) (suc at) i (omega arith) ∙ get_or-set_other b at i x 0 (λ e. omega arith)

-- its own row
row_put : (b s : List ℕ) (x k : ℕ) → k ≤ length s → length_limit * x + length s ≤ length b → row (sets b (length_limit * x) s) x k ≡ take k s
row_put b s x k h r =
    let n : length (take (length_limit * x) b) ≡ length_limit * x = length-take-le (length_limit * x) b (omega arith) in
    ap (λ (l : List ℕ). take k (drop (length_limit * x) l))
    (sets-eq s b (length_limit * x) r ∙ append_assoc (take (length_limit * x) b) s (drop (length_limit * x + length s) b))
    ∙ ap (λ (l : List ℕ). take k l) (drop_at (take (length_limit * x) b) (s ++ drop (length_limit * x + length s) b) (length_limit * x) n)
    ∙ take-append-le k s (drop (length_limit * x + length s) b) h

-- a run that is copied to another place
pub run_copied : (b : List ℕ) (from n at : ℕ) → from + n ≤ length b → at + n ≤ length b
    → paste b at (drop from b) (from + n - from) ≡ sets b at (take n (drop from b))
run_copied b from n at h g =
    let e : from + n - from ≡ n = omega arith in
    let m : length (take n (drop from b)) ≡ n = length-take-le n (drop from b) (rw length-drop (omega arith)) in
    ap (paste b at (drop from b)) e
    ∙ ap (λ (k : ℕ). (take at b ++ take n (drop from b)) ++ drop (at + k) b) (sym m)
    ∙ sym (sets-eq (take n (drop from b)) b at (rw m g))

-- the rows of the others
row_kept : (b s : List ℕ) (x y k : ℕ) → length s ≤ length_limit → x ≢ y → k ≤ length_limit → length_limit * y + length_limit ≤ length b
    → row (sets b (length_limit * x) s) y k ≡ row b y k
row_kept b s x y k h ne l r =
    let n : length (row b y k) ≡ k = length-take-le k (drop (length_limit * y) b) (rw length-drop (omega arith)) in
    let m : length (row (sets b (length_limit * x) s) y k) ≡ k =
    length-take-le k (drop (length_limit * y) (sets b (length_limit * x) s))
    (rw (length-drop (length_limit * y) (sets b (length_limit * x) s), length-sets b (length_limit * x) s) (omega arith)) in
    ext_get_or 0 (row (sets b (length_limit * x) s) y k) (row b y k) (m ∙ sym n) (λ i d. at i (rw m at d))
  where
    place : (i : ℕ)
        → i < length_limit
        → Dec (length_limit * y + i < length_limit * x)
        → get_or (sets b (length_limit * x) s) (length_limit * y + i) 0 ≡ get_or b (length_limit * y + i) 0
    place i d (yes q) = ahead s b (length_limit * x) (length_limit * y + i) q
    place i d (no q) = behind s b (length_limit * x) (length_limit * y + i) (omega arith)

    at : (i : ℕ) → i < k → get_or (row (sets b (length_limit * x) s) y k) i 0 ≡ get_or (row b y k) i 0
    at i d =
        get_or-take k (drop (length_limit * y) (sets b (length_limit * x) s)) i 0 d ∙ get_or-drop (length_limit * y) (sets b (length_limit * x) s) i 0
        ∙ place i (omega arith) (dec_lt (length_limit * y + i) (length_limit * x))
        ∙ sym (get_or-take k (drop (length_limit * y) b) i 0 d ∙ get_or-drop (length_limit * y) b i 0)

-- what a row holds is stored again
pub row_again : (b : List ℕ) (x k : ℕ) → k ≤ length_limit → length_limit * x + length_limit ≤ length b → sets b (length_limit * x) (row b x k) ≡ b
row_again b x k h r =
    let at = length_limit * x in
    let n : length (row b x k) ≡ k = length_row b x k h r in
    sets-eq (row b x k) b at (omega arith)
    ∙ append_assoc (take at b) (row b x k) (drop (at + length (row b x k)) b)
    ∙ ap (λ (i : ℕ). take at b ++ (row b x k ++ drop (at + i) b)) n
    ∙ ap (λ (l : List ℕ). take at b ++ (row b x k ++ l)) (sym (drop-drop k at b))
    ∙ ap (λ (l : List ℕ). take at b ++ l) (take-append-drop k (drop at b))
    ∙ take-append-drop at b

-- a part that was lent is stored
pub part_stored : (b v : List ℕ) (at k : ℕ) → length v ≡ k → at + k ≤ length b → take at b ++ (v ++ drop k (drop at b)) ≡ sets b at v
part_stored b v at k n h =
    sym (sets-eq v b at (omega arith) ∙ append_assoc (take at b) v (drop (at + length v) b)
    ∙ ap (λ (i : ℕ). take at b ++ (v ++ drop (at + i) b)) n ∙ ap (λ (l : List ℕ). take at b ++ (v ++ l)) (sym (drop-drop k at b)))

-- ---- the row of a variable becomes v, with the size of its string, past 64 for none

module _ (characters sizes : List ℕ) (x size : ℕ) (v : List ℕ) (short : length v ≤ length_limit) (long : size ≤ length_limit → size ≤ length v)
    (inside : x < length sizes)
    (room : length_limit * x + length_limit ≤ length characters) where
  abbrev stored : List ℕ
  stored = sets characters (length_limit * x) v

  stored_here : string_in stored (set sizes x size) x ≡ sized size v
  stored_here = ap (λ (k : ℕ). sized k (drop (length_limit * x) stored)) (get_or-set_same sizes x size 0 inside) ∙ go (leb size length_limit) refl
    where
      go : (t : Bool) → leb size length_limit ≡ t → sized size (drop (length_limit * x) stored) ≡ sized size v
      go true f =
          let h : size ≤ length_limit = leb-true size length_limit f in
          sized_some size (drop (length_limit * x) stored) h ∙ ap some (row_put characters v x size (long h) (omega arith)) ∙ sym (sized_some size v h)
      go false f =
          let h : length_limit < size = leb-false size length_limit f in
          sized_none size (drop (length_limit * x) stored) h ∙ sym (sized_none size v h)

  pub stored_there : (y : ℕ) → y ≢ x → length_limit * y + length_limit ≤ length characters → string_in stored (set sizes x size) y ≡ string_in characters sizes y
  stored_there y ne r =
      ap (λ (k : ℕ). sized k (drop (length_limit * y) stored)) (get_or-set_other sizes x y size 0 ne) ∙ go (leb (get_or sizes y 0) length_limit) refl
    where
      go : (t : Bool) → leb (get_or sizes y 0) length_limit ≡ t → sized (get_or sizes y 0) (drop (length_limit * y) stored) ≡ string_in characters sizes y
      go false g =
          let h : length_limit < get_or sizes y 0 = leb-false (get_or sizes y 0) length_limit g in
          sized_none (get_or sizes y 0) (drop (length_limit * y) stored) h ∙ sym (sized_none (get_or sizes y 0) (drop (length_limit * y) characters) h)
      go true g =
          let h : get_or sizes y 0 ≤ length_limit = leb-true (get_or sizes y 0) length_limit g in
          sized_some (get_or sizes y 0) (drop (length_limit * y) stored) h
          ∙ ap some (row_kept characters v x y (get_or sizes y 0) short (λ q. ne (sym q)) h r)
          ∙ sym (sized_some (get_or sizes y 0) (drop (length_limit * y) characters) h)

  -- the first variables have the strings g, and x gets its own
  pub stored_passed : (g : ℕ → Option (List ℕ)) → ((y : ℕ) → y < x → string_in characters sizes y ≡ g y) → sized size v ≡ g x
      → (y : ℕ) → y < x + 1 → string_in stored (set sizes x size) y ≡ g y
  stored_passed g h e y l = go (ℕ_discrete y x)
    where
      go : Dec (y ≡ x) → string_in stored (set sizes x size) y ≡ g y
      go (yes q) = ap (string_in stored (set sizes x size)) q ∙ stored_here ∙ e ∙ ap g (sym q)
      go (no q) = stored_there y q (omega arith) ∙ h y (omega arith)

-- ---- the strings that are given

module _ (characters sizes w : List ℕ) where
  given_before : (o : Option (List ℕ)) (ss : List (List ℕ)) → given w (before o ss) ≡ (is_it o w || given w ss)
  unfolding before is_it
  given_before none ss = refl
  given_before (some s) ss = refl

  given_turn : (y : ℕ) → given w (given_strings characters sizes (suc y)) ≡ (is_it (string_in characters sizes y) w || given w (given_strings characters sizes y))
  unfolding given_strings
  given_turn y = given_before (string_in characters sizes y) (given_strings characters sizes y)

  pub given_by : (p : ℕ) → any_below p (λ y. is_it (string_in characters sizes y) w) ≡ given w (given_strings characters sizes p)
  unfolding given_strings
  given_by zero = refl
  given_by (suc p) = ap (λ (t : Bool). is_it (string_in characters sizes p) w || t) (given_by p) ∙ sym (given_turn p)

-- ---- the third round, by what a variable has

module _ (n p : ℕ) (ls : List ℕ) (l : ℕ) (characters sizes : List ℕ) (x : ℕ) where
  abbrev third : Option (List ℕ) → Bool → List ℕ
  third o t = elim o as (λ _. List ℕ) [
    | some s ↦ s
    | none ↦
        elim t as (λ _. List ℕ) [
          | true ↦ row characters (lowest_variable ls x) (get_or sizes (lowest_variable ls x) 0)
          | false ↦ fresh_from p n l (given_strings characters sizes p) 0
        ]
  ]

  pub completed_own : (s : List ℕ) → string_in characters sizes x ≡ some s → completed n p ls l characters sizes x ≡ s
  unfolding completed
  completed_own s e = ap (λ (o : Option (List ℕ)). third o (ltb (lowest_variable ls x) x)) e

  pub completed_copied : string_in characters sizes x ≡ none
      → lowest_variable ls x < x
      → completed n p ls l characters sizes x ≡ row characters (lowest_variable ls x) (get_or sizes (lowest_variable ls x) 0)
  unfolding completed
  completed_copied e h = ap₂ third e (lt-ltb (lowest_variable ls x) x h)

  pub completed_fresh : string_in characters sizes x ≡ none
      → x ≤ lowest_variable ls x
      → completed n p ls l characters sizes x ≡ fresh_from p n l (given_strings characters sizes p) 0
  unfolding completed
  completed_fresh e h = ap₂ third e (le-ltb (lowest_variable ls x) x h)

-- ---- the first two rounds, by the literal of the class

module _ (u : Question) (ls : List ℕ) (m : List ℤ) (x : ℕ) where
  pub fixed_literal : (l : ℕ) → literal_in u ls x ≡ some l → fixed_at u ls m x ≡ some (literal u l)
  fixed_literal l e = ap (λ (o : Option ℕ). fixed_by u o (model_value u m len x) (model_value u m code x)) e

  pub fixed_other : literal_in u ls x ≡ none → fixed_at u ls m x ≡ one_char (eqℤ (model_value u m len x) (pos 1)) (model_value u m code x)
  fixed_other e = ap (λ (o : Option ℕ). fixed_by u o (model_value u m len x) (model_value u m code x)) e
