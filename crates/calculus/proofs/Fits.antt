-- A step fits with its children exactly when it is an instance of its rule with them.
use Prim.Native.Nat.{ℕ, suc, ◌≤◌}
use native.Mathlib.Omega.{arith}
use mathlib.Core.Path.{◌≡◌, refl, sym, ◌∙◌, ap, ap₂, subst}
use mathlib.Core.Logic.{◌≢◌, ◌⊎◌, inl, inr}
use mathlib.Core.Bool.{Bool, true, false, cond, not, ◌&&◌, ◌||◌}
use mathlib.Core.Option.{Option, none, some}
use mathlib.Core.List.{List, [], ◌∷◌}
use lib.ListN.{length, get_elem?}
use lib.Dec.{T, leb, eqb}
use lib.IntN.{ℤ, pos, negsuc, ◌+ℤ◌, ◌*ℤ◌}
use lib.Signed.{◌≤ℤ◌, ◌<ℤ◌, non_neg}
use borrow.Author.Tests.{leb-true, leb-false}
use Rattle.integers.proofs.Laws.{minus_one_*ℤ}
use Rattle.lists.proofs.Every.{some_at}
use Rattle.lists.specs.Lists.{any, lowest}
use Rattle.lists.proofs.Options.{some_injective, none_some}
use Rattle.lists.proofs.Lists.{all_at, all_true→, →all_true}
use Rattle.lists.proofs.Tests.{→true, true→, and→, →and, or→, →or_left, →or_right}
use Rattle.calculus.specs.Limits.{column_limit}
use Rattle.calculus.specs.Alphabet.{character_count}
use Rattle.calculus.specs.LinearForms.{plus, scale, minus, is_zero, eqℤ, eq_integers, all_zero, floor_div_all}
use Rattle.calculus.specs.Facts.{Question, Fact, same, not_same, is_literal, arithmetic, Branch}
use Rattle.calculus.specs.Facts.{Relation, ge, eq, ne, Function, len, code, holds, column_of, apply, Holds}
use Rattle.calculus.specs.Chains.{var_node}
use Rattle.calculus.specs.Classes.{labels, same_class, class_literal, conflict}
use Rattle.calculus.specs.Steps.{Step, Sum, BranchOn, Apart, AConf, SConf, SProp, LIntro, LValid, CCollapse, CValid, CInj, Card, Join}
use Rattle.calculus.specs.Children.{sum_child, literal_child, pair_children, bound_child, join_child}
use Rattle.calculus.specs.Rules.{guard, then, summand, sum_of, divided, is_equation, names_equation, all_equations, divides_exactly, sum_relation}
use Rattle.calculus.specs.Rules.{is_false, join_form, join_of, states_zero, states_difference, found}
use Rattle.calculus.specs.Rules.{same_length, neighbours, distinct, least_power, last_child, card_children, children, apart_of, states_equal}
use Rattle.calculus.specs.Instances.{entry, FactAt, Multiplier, Summands, total, Exact, SumRelation, IsSum, IsApart, IsAConf}
use Rattle.calculus.specs.Instances.{IsClassLiteral, LengthsStated, Neighbours, LastChild, IsJoin, Instance, IsStep}
use Rattle.calculus.specs.InRange.{HeadInRange, FactInRange, FactsInRange}
use Rattle.calculus.proofs.Alphabet.{some_character}
use Rattle.lists.proofs.Searches.{turn, lowest_passes}
use Rattle.calculus.proofs.Tests.{guard→, →guard, then→, →then, differ→, →differ, distinct→, →distinct}
use Rattle.calculus.proofs.LinearForms.{eqℤ→, →eqℤ, eq_integers→, →eq_integers}
use Rattle.calculus.proofs.Relations.{nonzero→, →nonzero, fails→, →fails, positive→, →positive}
use Rattle.calculus.proofs.Entries.{entry_scale, by_entries, all_zero→, →all_zero, summed, entry_summed, Whole}
use Rattle.calculus.proofs.Entries.{length_plus, length_scale, whole_scale, divided→, →divided, sum_divided}
use Rattle.calculus.proofs.Classes.{class→chain, chain→class, literal→counts, counts→literal, conflict→, →conflict}
use Rattle.calculus.proofs.Powers.{least_power_law, least_unique}

-- ---- 1 Sum

-- the fact f is taken with the multiplier m as the summand s
record Taken (m : ℤ) (f : Fact) (s : List ℤ) : Type 0 where
  relation : Relation
  form : List ℤ
  is : f ≡ arithmetic relation form
  multiplier : Multiplier relation m
  times : s ≡ scale m form

summand→ : (m : ℤ) (f : Fact) {s : List ℤ} → summand m f ≡ some s → Taken m f s
summand→ m (same x y) e = absurd (none_some e)
summand→ m (not_same x y) e = absurd (none_some e)
summand→ m (is_literal x l) e = absurd (none_some e)
summand→ m (arithmetic ge g) e =
    let (t, h) = guard→ (non_neg m && not (is_zero m)) e in
    record { relation = ge; form = g; is = refl; multiplier = positive→ m t; times = sym h }
summand→ m (arithmetic eq g) e =
    let (t, h) = guard→ (not (is_zero m)) e in
    record { relation = eq; form = g; is = refl; multiplier = nonzero→ m t; times = sym h }
summand→ m (arithmetic ne g) e = absurd (none_some e)

→summand : (m : ℤ) (r : Relation) (e : List ℤ) → Multiplier r m → summand m (arithmetic r e) ≡ some (scale m e)
→summand m ge e h = →guard (non_neg m && not (is_zero m)) (→positive m h) refl
→summand m eq e h = →guard (not (is_zero m)) (→nonzero m h) refl
→summand m ne e h = absurd h

pub sum→ : (b : Branch) (ts : List (ℕ × ℤ)) {r : List ℤ} → sum_of b ts ≡ some r → (es : List (List ℤ)) × Summands b ts es × (r ≡ summed ts es)
sum→ b [] e = ([], tt, sym (some_injective e))
sum→ b (t ∷ ts) e =
    let (f, ef, e1) = then→ (get_elem? b t.0) (λ f. then (summand t.1 f) (λ e. then (sum_of b ts) (λ r. some (plus e r)))) e in
    let (s, es, e2) = then→ (summand t.1 f) (λ e. then (sum_of b ts) (λ r. some (plus e r))) e1 in
    let (q, sq, e3) = then→ (sum_of b ts) (λ r. some (plus s r)) e2 in
    let w = summand→ t.1 f es in
    let (gs, h, p) = sum→ b ts sq in (
      w.form ∷ gs,
      (record { relation = w.relation; named = ef ∙ ap some w.is; multiplier = w.multiplier }, h),
      sym (some_injective e3) ∙ ap₂ plus w.times p,
    )

→sum : (b : Branch) (ts : List (ℕ × ℤ)) (es : List (List ℤ)) → Summands b ts es → sum_of b ts ≡ some (summed ts es)
→sum b [] [] h = refl
→sum b [] (e ∷ es) h = absurd h
→sum b (t ∷ ts) [] h = absurd h
→sum b (t ∷ ts) (e ∷ es) (h, hs) =
    →then _ h.named (→then _ (→summand t.1 h.relation e h.multiplier) (→then (λ r. some (plus (scale t.1 e) r)) (→sum b ts es hs) refl))

-- the relation of the fact that a Sum adds

equation→ : (o : Option Fact) → is_equation o ≡ true → (e : List ℤ) × (o ≡ some (arithmetic eq e))
equation→ none h = absurd (true→ h)
equation→ (some (same x y)) h = absurd (true→ h)
equation→ (some (not_same x y)) h = absurd (true→ h)
equation→ (some (is_literal x l)) h = absurd (true→ h)
equation→ (some (arithmetic ge e)) h = absurd (true→ h)
equation→ (some (arithmetic eq e)) h = (e, refl)
equation→ (some (arithmetic ne e)) h = absurd (true→ h)

-- the constant of a form that is divided
constant_is : (d : ℕ) (r e : List ℤ) → divided d r ≡ some e → divides_exactly d r ≡ eqℤ (pos d *ℤ entry e 0) (entry r 0)
unfolding divides_exactly
constant_is d [] e h = absurd (none_some h)
constant_is d (c ∷ cs) e h =
    let (_, g) = guard→ (leb 1 d && eq_integers (scale (pos d) (floor_div_all cs d)) cs) h in
    ap (λ e. eqℤ (pos d *ℤ entry e 0) c) g

pub sum_relation_law : (b : Branch) (d : ℕ) (ts : List (ℕ × ℤ)) (es : List (List ℤ)) {r e : List ℤ}
    → r ≡ summed ts es
    → divided d r ≡ some e
    → SumRelation (Exact b d ts es e) (sum_relation b d ts r)
unfolding all_equations
sum_relation_law b d ts es {r} {e} p q = go (all_equations b ts && divides_exactly d r) refl
  where
    exact : T (all_equations b ts && divides_exactly d r) → Exact b d ts es e
    exact t =
        let (h, k) = and→ (all_equations b ts) (divides_exactly d r) t in
        record {
          equations = all_true→ (names_equation b) ts (λ t. equation→ (get_elem? b t.0)) (→true (all_equations b ts) h);
          constant = eqℤ→ (pos d *ℤ entry e 0) (entry r 0) (subst T (constant_is d r e q) k) ∙ ap (λ r. entry r 0) p ∙ entry_summed ts es 0;
        }

    exactly : Exact b d ts es e → T (all_equations b ts && divides_exactly d r)
    exactly x = →and (all_equations b ts) (divides_exactly d r)
        (true→ (→all_true (names_equation b) ts (λ t (f, h). ap is_equation h) x.equations))
        (subst T (sym (constant_is d r e q)) (→eqℤ (x.constant ∙ sym (ap (λ r. entry r 0) p ∙ entry_summed ts es 0))))

    go : (t : Bool) → (all_equations b ts && divides_exactly d r) ≡ t → SumRelation (Exact b d ts es e) (cond t eq ge)
    go true h = inl (exact (true→ h), refl)
    go false h = inr ((λ x. subst T h (exactly x)), refl)

relation_unique : {E : Type 0} {r s : Relation} → SumRelation E r → SumRelation E s → r ≡ s
relation_unique (inl (e, p)) (inl (f, q)) = p ∙ sym q
relation_unique (inl (e, p)) (inr (f, q)) = absurd (f e)
relation_unique (inr (e, p)) (inl (f, q)) = absurd (e f)
relation_unique (inr (e, p)) (inr (f, q)) = p ∙ sym q

-- there is a lowest where some element passes
found_any : {A : Type 0} (test : A → Bool) (b : List A) → found (lowest test b) ≡ any test b
unfolding lowest
found_any test [] = refl
found_any test (f ∷ b) = go (test f) (lowest test b) (found_any test b)
  where
    go : (t : Bool) (o : Option ℕ) → found o ≡ any test b → found (turn test t o) ≡ (t || any test b)
    go true o e = refl
    go false none e = e
    go false (some k) e = e

module _ (u : Question) (b : Branch) (g : FactsInRange u b) where
  -- a sum of whole forms is a whole form
  sum_size : (ts : List (ℕ × ℤ)) (es : List (List ℤ)) → Summands b ts es → (length (summed ts es) ≤ suc column_limit) × (1 ≤ length ts → Whole (summed ts es))
  sum_size [] [] h = (omega arith, λ l. absurd (omega arith))
  sum_size [] (e ∷ es) h = absurd h
  sum_size (t ∷ ts) [] h = absurd h
  sum_size (t ∷ ts) (e ∷ es) (h, hs) =
      let k : length (scale t.1 e) ≡ suc column_limit = whole_scale t.1 e (all_at (FactInRange u) b t.0 g h.named) in
      let short : length (summed ts es) ≤ suc column_limit = (sum_size ts es hs).0 in
      let whole : length (plus (scale t.1 e) (summed ts es)) ≡ suc column_limit = length_plus (scale t.1 e) (summed ts es) (omega arith) ∙ k in
      (omega arith, λ l. whole)

  sum_fits : (d : ℕ) (ts : List (ℕ × ℤ)) {cs : List (List Fact)} → 1 ≤ length ts → children u b (Sum d ts) ≡ some cs → IsSum b d ts cs
  sum_fits d ts l e =
      let (r, er, e1) = then→ (sum_of b ts) (λ r. then (divided d r) (λ e. some (sum_child (sum_relation b d ts r) e))) e in
      let (q, dq, e2) = then→ (divided d r) (λ e. some (sum_child (sum_relation b d ts r) e)) e1 in
      let (es, h, p) = sum→ b ts er in
      let (w, size) = divided→ d r q dq in
      let total-is : (j : ℕ) → entry r j ≡ total j ts es = λ j. ap (λ r. entry r j) p ∙ entry_summed ts es j in
      record {
        divisor = w.divisor;
        some_pair = l;
        forms = es;
        summands = h;
        new = q;
        size = size ∙ ap length p ∙ (sum_size ts es h).1 l;
        columns = λ j. w.columns j ∙ total-is (suc j);
        floor_low = subst (λ z. (pos d *ℤ entry q 0) ≤ℤ z) (total-is 0) w.floor_low;
        floor_high = subst (λ z. z <ℤ (pos d *ℤ (entry q 0 +ℤ pos 1))) (total-is 0) w.floor_high;
        relation = sum_relation b d ts r;
        is_equation_law = sum_relation_law b d ts es p dq;
        adds = sym (some_injective e2);
      }

  fits_sum : (d : ℕ) (ts : List (ℕ × ℤ)) {cs : List (List Fact)} → IsSum b d ts cs → children u b (Sum d ts) ≡ some cs
  fits_sum d ts i =
      let r : List ℤ = summed ts i.forms in
      let whole : Whole r = (sum_size ts i.forms i.summands).1 i.some_pair in
      let w : divided d r ≡ some i.new = →divided d r i.new (omega arith) (i.size ∙ sym whole) (sum_divided i) in
      let relation : sum_relation b d ts r ≡ i.relation = relation_unique (sum_relation_law b d ts i.forms refl w) i.is_equation_law in
      →then _ (→sum b ts i.forms i.summands)
      (→then (λ e. some (sum_child (sum_relation b d ts r) e)) w (ap (λ x. some (sum_child x i.new)) relation ∙ ap some (sym i.adds)))

-- ---- 3 Apart

apart_fits : (b : Branch) (k : ℕ) (f : Fact) {cs : List (List Fact)} → FactAt b k f → apart_of f ≡ some cs → IsApart b k cs
apart_fits b k (same x y) h e = absurd (none_some e)
apart_fits b k (not_same x y) h e = absurd (none_some e)
apart_fits b k (is_literal x l) h e = absurd (none_some e)
apart_fits b k (arithmetic ge g) h e = absurd (none_some e)
apart_fits b k (arithmetic eq g) h e = absurd (none_some e)
apart_fits b k (arithmetic ne g) h e = record { form = g; named = h; adds = sym (some_injective e) }

-- ---- 4 A-Conf

conf_fits : (b : Branch) (k : ℕ) (f : Fact) {cs : List (List Fact)} → FactAt b k f → T (is_false f) → cs ≡ [] → IsAConf b k cs
conf_fits b k (same x y) h t n = absurd t
conf_fits b k (not_same x y) h t n = absurd t
conf_fits b k (is_literal x l) h t n = absurd t
conf_fits b k (arithmetic r []) h t n =
    record { relation = r; form = []; named = h; no_coefficient = λ j. refl; false_constant = fails→ r (pos 0) t; closes = n }
conf_fits b k (arithmetic r (c ∷ a)) h t n =
    let (z, s) = and→ (all_zero a) (not (holds r c)) t in
    record { relation = r; form = c ∷ a; named = h; no_coefficient = all_zero→ a z; false_constant = fails→ r c s; closes = n }

fits_conf : (r : Relation) (e : List ℤ) → ((j : ℕ) → entry e (suc j) ≡ pos 0) → (Holds r (entry e 0) → ⊥) → T (is_false (arithmetic r e))
fits_conf r [] h f = →fails r (pos 0) f
fits_conf r (c ∷ a) h f = →and (all_zero a) (not (holds r c)) (→all_zero a h) (→fails r c f)

-- ---- 12 Card

states→ : (e : List ℤ) (f : Fact) → T (states_zero e f) → f ≡ arithmetic eq e
states→ e (same x y) t = absurd t
states→ e (not_same x y) t = absurd t
states→ e (is_literal x l) t = absurd t
states→ e (arithmetic ge g) t = absurd t
states→ e (arithmetic eq g) t = ap (arithmetic eq) (sym (eq_integers→ e g t))
states→ e (arithmetic ne g) t = absurd t

module _ (u : Question) (b : Branch) where
  abbrev difference : ℕ → ℕ → List ℤ
  difference x y = minus (apply u len x) (apply u len y)

  abbrev states : ℕ → ℕ → Fact → Bool
  states x y = states_difference (column_of u len x) (column_of u len y)

  -- a fact that passes states it
  pub stated_at : (x y k : ℕ) (f : Fact) → FactAt b k f → states x y f ≡ true → LengthsStated u b x y
  unfolding states_difference
  stated_at x y k f h p = either (or→ (states_zero (difference x y) f) (states_zero (difference y x) f) (true→ p))
    where
      either : T (states_zero (difference x y) f) ⊎ T (states_zero (difference y x) f) → LengthsStated u b x y
      either (inl s) = inl (k, h ∙ ap some (states→ (difference x y) f s))
      either (inr s) = inr (k, h ∙ ap some (states→ (difference y x) f s))

  same_length→ : (x y : ℕ) → T (same_length u b x y) → LengthsStated u b x y
  unfolding states_equal
  same_length→ x y t = go (lowest (states x y) b) refl t
    where
      go : (o : Option ℕ) → lowest (states x y) b ≡ o → T (found o) → LengthsStated u b x y
      go none e t = absurd t
      go (some k) e t = let (f, h, p) = lowest_passes (states x y) b k e in stated_at x y k f h p

  passing : (x y k : ℕ) (f : Fact) → FactAt b k f → T (states x y f) → T (same_length u b x y)
  unfolding states_equal
  passing x y k f h t = true→ (found_any (states x y) b ∙ some_at (states x y) b k f h (→true (states x y f) t))

  pub →same_length : (x y : ℕ) → LengthsStated u b x y → T (same_length u b x y)
  unfolding states_difference
  →same_length x y (inl (k, h)) =
      let e : List ℤ = difference x y in
      passing x y k (arithmetic eq e) h (→or_left (states_zero e (arithmetic eq e)) (states_zero (difference y x) (arithmetic eq e)) (→eq_integers {a = e} refl))
  →same_length x y (inr (k, h)) =
      let e : List ℤ = difference y x in
      passing x y k (arithmetic eq e) h (→or_right (states_zero (difference x y) (arithmetic eq e)) (states_zero e (arithmetic eq e)) (→eq_integers {a = e} refl))

  pub neighbours→ : (x : ℕ) (ys : List ℕ) → T (neighbours u b x ys) → Neighbours u b x ys
  neighbours→ x [] t = tt
  neighbours→ x (y ∷ ys) t = let (s, q) = and→ (same_length u b x y) (neighbours u b y ys) t in (same_length→ x y s, neighbours→ y ys q)

  pub →neighbours : (x : ℕ) (ys : List ℕ) → Neighbours u b x ys → T (neighbours u b x ys)
  →neighbours x [] h = tt
  →neighbours x (y ∷ ys) (h, hs) = →and (same_length u b x y) (neighbours u b y ys) (→same_length x y h) (→neighbours y ys hs)

pub last→ : (u : Question) (x m : ℕ) → 1 ≤ u.n → LastChild u x m (last_child u x m)
last→ u x m h = go (leb (character_count u.n) 1) refl
  where
    go : (t : Bool) → leb (character_count u.n) 1 ≡ t
        → LastChild u x m (elim t as (λ _. List (List Fact)) [ true ↦ [] | false ↦ bound_child u x (least_power m (character_count u.n) m 0) ])
    go true e = inl (omega (arith, some_character u.n h, leb-true (character_count u.n) 1 e), refl)
    go false e =
        let many = leb-false (character_count u.n) 1 e in
        inr (
          (λ z. omega (arith, many)),
          record { power = least_power m (character_count u.n) m 0; least = least_power_law (character_count u.n) m many; adds = refl },
        )

last_unique : (u : Question) (x m : ℕ) {c d : List (List Fact)} → LastChild u x m c → LastChild u x m d → c ≡ d
last_unique u x m (inl (e, p)) (inl (f, q)) = p ∙ sym q
last_unique u x m (inl (e, p)) (inr (f, q)) = absurd (f e)
last_unique u x m (inr (e, p)) (inl (f, q)) = absurd (e f)
last_unique u x m (inr (e, p)) (inr (f, q)) = p.adds ∙ ap (bound_child u x) (least_unique p.least q.least) ∙ sym q.adds

card_fits : (u : Question) (b : Branch) (xs : List ℕ) {cs : List (List Fact)} → 1 ≤ u.n → card_children u b xs ≡ some cs → Instance u b (Card xs) cs
unfolding Instance
card_fits u b [] h e = absurd (none_some e)
card_fits u b (x ∷ []) h e = absurd (none_some e)
card_fits u b (x ∷ y ∷ xs) h e =
    let (t, g) = guard→ (distinct (x ∷ y ∷ xs) && neighbours u b x (y ∷ xs)) e in
    let (a, c) = and→ (distinct (x ∷ y ∷ xs)) (neighbours u b x (y ∷ xs)) t in
    record {
      different = distinct→ (x ∷ y ∷ xs) a;
      lengths = neighbours→ u b x (y ∷ xs) c;
      last = last_child u x (length (x ∷ y ∷ xs));
      last_child_law = last→ u x (length (x ∷ y ∷ xs)) h;
      adds = sym g;
    }

fits_card : (u : Question) (b : Branch) (xs : List ℕ) {cs : List (List Fact)} → 1 ≤ u.n → Instance u b (Card xs) cs → card_children u b xs ≡ some cs
unfolding Instance
fits_card u b [] h i = absurd i
fits_card u b (x ∷ []) h i = absurd i
fits_card u b (x ∷ y ∷ xs) h i = →guard (distinct (x ∷ y ∷ xs) && neighbours u b x (y ∷ xs))
    (→and (distinct (x ∷ y ∷ xs)) (neighbours u b x (y ∷ xs)) (→distinct (x ∷ y ∷ xs) i.different) (→neighbours u b x (y ∷ xs) i.lengths))
    (ap (pair_children (x ∷ y ∷ xs)) (last_unique u x (length (x ∷ y ∷ xs)) (last→ u x (length (x ∷ y ∷ xs)) h) i.last_child_law) ∙ sym i.adds)

-- ---- 13 Join

-- the fact f is taken by Join, with the form e
record Joined (f : Fact) (e : List ℤ) : Type 0 where
  relation : Relation
  taken : relation ≢ ne
  is : f ≡ arithmetic relation e

join_form→ : (f : Fact) {e : List ℤ} → join_form f ≡ some e → Joined f e
join_form→ (same x y) h = absurd (none_some h)
join_form→ (not_same x y) h = absurd (none_some h)
join_form→ (is_literal x l) h = absurd (none_some h)
join_form→ (arithmetic ge g) h = record { relation = ge; taken = λ z. let z : ◌≡◌ {A = ℕ} 0 1 = cc in omega arith; is = ap (arithmetic ge) (some_injective h) }
join_form→ (arithmetic eq g) h = record { relation = eq; taken = λ z. let z : ◌≡◌ {A = ℕ} 0 1 = cc in omega arith; is = ap (arithmetic eq) (some_injective h) }
join_form→ (arithmetic ne g) h = absurd (none_some h)

→join_form : (r : Relation) (e : List ℤ) → r ≢ ne → join_form (arithmetic r e) ≡ some e
→join_form ge e h = refl
→join_form eq e h = refl
→join_form ne e h = absurd (h refl)

join_fits : (b : Branch) (j k : ℕ) (f g : Fact) {cs : List (List Fact)} → FactAt b j f → FactAt b k g → join_of f g ≡ some cs → IsJoin b j k cs
join_fits b j k f g hf hg h =
    let (e, p, h1) = then→ (join_form f) (λ e. then (join_form g) (λ a. guard (eq_integers (scale (negsuc 0) e) a) (join_child e))) h in
    let (a, q, h2) = then→ (join_form g) (λ a. guard (eq_integers (scale (negsuc 0) e) a) (join_child e)) h1 in
    let (t, n) = guard→ (eq_integers (scale (negsuc 0) e) a) h2 in
    let negative : scale (negsuc 0) e ≡ a = eq_integers→ (scale (negsuc 0) e) a t in
    let first = join_form→ f p in
    let second = join_form→ g q in
    record {
      first_relation = first.relation;
      second_relation = second.relation;
      first_taken = first.taken;
      second_taken = second.taken;
      form = e;
      negative = a;
      first = hf ∙ ap some first.is;
      second = hg ∙ ap some second.is;
      negated = λ i. ap (λ a. entry a i) (sym negative) ∙ entry_scale (negsuc 0) e i ∙ minus_one_*ℤ (entry e i);
      adds = sym n;
    }

fits_join : (u : Question) (b : Branch) (j k : ℕ) {cs : List (List Fact)} → FactsInRange u b → IsJoin b j k cs → children u b (Join j k) ≡ some cs
fits_join u b j k r i =
    let e : Whole i.form = all_at (FactInRange u) b j r i.first in
    let a : Whole i.negative = all_at (FactInRange u) b k r i.second in
    let p : scale (negsuc 0) i.form ≡ i.negative = by_entries (scale (negsuc 0) i.form) i.negative (length_scale (negsuc 0) i.form ∙ e ∙ sym a)
    (λ p. entry_scale (negsuc 0) i.form p ∙ minus_one_*ℤ (entry i.form p) ∙ sym (i.negated p)) in
    →then _ i.first (→then _ i.second
    (→then _ (→join_form i.first_relation i.form i.first_taken) (→then _ (→join_form i.second_relation i.negative i.second_taken)
    (→guard (eq_integers (scale (negsuc 0) i.form) i.negative) (→eq_integers p) (sym i.adds)))))

-- ---- every rule

module _ (u : Question) (w : HeadInRange u) (b : Branch) (r : FactsInRange u b) where
  -- 7 L-Intro and 9 C-Collapse
  literal_fits : (f : Function) (x : ℕ) {cs : List (List Fact)}
      → then (class_literal u b x) (λ l. some (literal_child u f x l)) ≡ some cs
      → IsClassLiteral u b f x cs
  literal_fits f x e =
      let (l, el, e1) = then→ (class_literal u b x) (λ l. some (literal_child u f x l)) e in
      record { held = l; counts = literal→counts u w b r x el; adds = sym (some_injective e1) }

  fits_literal : (f : Function) (x : ℕ) {cs : List (List Fact)}
      → IsClassLiteral u b f x cs
      → then (class_literal u b x) (λ l. some (literal_child u f x l)) ≡ some cs
  fits_literal f x i = →then (λ l. some (literal_child u f x l)) (counts→literal u w b r x i.held i.counts) (ap some (sym i.adds))

  pub fits→instance : (st : Step) {cs : List (List Fact)} → IsStep u st → children u b st ≡ some cs → Instance u b st cs
  unfolding Instance IsStep
  fits→instance (Sum d ts) g e = sum_fits u b r d ts g.1 e
  fits→instance (BranchOn a) g e = sym (some_injective e)
  fits→instance (Apart k) g e = let (f, h, e1) = then→ (get_elem? b k) apart_of e in apart_fits b k f h e1
  fits→instance (AConf k) g e =
      let (f, h, e1) = then→ (get_elem? b k) (λ f. guard (is_false f) []) e in
      let (t, n) = guard→ (is_false f) e1 in
      conf_fits b k f h t (sym n)
  fits→instance SConf g e = let (t, n) = guard→ (conflict u b) e in record { clash = conflict→ u w b r t; closes = sym n }
  fits→instance (SProp f x y) g e =
      let (t, n) = guard→ (not (eqb x y) && same_class (labels b) (var_node x) (var_node y)) e in
      let (d, s) = and→ (not (eqb x y)) (same_class (labels b) (var_node x) (var_node y)) t in
      record { different = differ→ x y d; joined = class→chain b (var_node x) (var_node y) s; adds = sym n }
  fits→instance (LIntro x) g e = literal_fits len x e
  fits→instance (LValid x) g e = sym (some_injective e)
  fits→instance (CCollapse x) g e = literal_fits code x e
  fits→instance (CValid x) g e = sym (some_injective e)
  fits→instance (CInj x y) g e = let (t, n) = guard→ (not (eqb x y)) e in record { different = differ→ x y t; adds = sym n }
  fits→instance (Card xs) g e = card_fits u b xs w.alphabet e
  fits→instance (Join j k) g e =
      let (f, hf, e1) = then→ (get_elem? b j) (λ f. then (get_elem? b k) (λ g. join_of f g)) e in
      let (a, ha, e2) = then→ (get_elem? b k) (λ g. join_of f g) e1 in
      join_fits b j k f a hf ha e2

  pub instance→fits : (st : Step) {cs : List (List Fact)} → IsStep u st → Instance u b st cs → children u b st ≡ some cs
  unfolding Instance IsStep
  instance→fits (Sum d ts) g i = fits_sum u b r d ts i
  instance→fits (BranchOn a) g i = ap some (sym i)
  instance→fits (Apart k) g i = →then apart_of i.named (ap some (sym i.adds))
  instance→fits (AConf k) g i =
      →then (λ f. guard (is_false f) []) i.named
      (→guard (is_false (arithmetic i.relation i.form)) (fits_conf i.relation i.form i.no_coefficient i.false_constant) (sym i.closes))
  instance→fits SConf g i = →guard (conflict u b) (→conflict u w b r i.clash) (sym i.closes)
  instance→fits (SProp f x y) g i = →guard (not (eqb x y) && same_class (labels b) (var_node x) (var_node y))
      (→and (not (eqb x y)) (same_class (labels b) (var_node x) (var_node y)) (→differ x y i.different)
      (chain→class u w b r (var_node x) (var_node y) i.joined))
      (sym i.adds)
  instance→fits (LIntro x) g i = fits_literal len x i
  instance→fits (LValid x) g i = ap some (sym i)
  instance→fits (CCollapse x) g i = fits_literal code x i
  instance→fits (CValid x) g i = ap some (sym i)
  instance→fits (CInj x y) g i = →guard (not (eqb x y)) (→differ x y i.different) (sym i.adds)
  instance→fits (Card xs) g i = fits_card u b xs w.alphabet i
  instance→fits (Join j k) g i = fits_join u b j k r i
