-- What is tracked of the constraints: one by one, as bounds change, and what it tells of the scans.
use Prim.Native.Nat.{ℕ, ◌+◌, ◌*◌, ◌≤◌, ◌<◌}
use native.Mathlib.Nat.{eq-or-lt_of_le}
use native.Mathlib.Omega.{arith}
use mathlib.Core.List.{List}
use mathlib.Core.Logic.{⊎_elim}
use mathlib.Core.Option.{none}
use mathlib.Core.Path.{◌≡◌, refl, sym, subst, ◌∙◌}
use lib.Dec.{lit≤}
use lib.IntN.{ℤ, pos, ◌+ℤ◌, ◌-ℤ◌}
use lib.ListN.{length, set, length-set}
use lib.Seq.{get_or-set_same, get_or-set_other}
use lib.Signed.{◌≤ℤ◌, ◌<ℤ◌}
use Rattle.model_problems.specs.Lists.{tab}
use Rattle.model_problems.specs.Ranges.{max_variables}
use Rattle.model_problems.specs.Constraint.{in_range, activity, term}
use Rattle.model_files.specs.File.{no_constraint}
use Rattle.integer.specs.Order.{≤_trans}
use Rattle.integer.specs.Expression.{var, le, of_le}
use Rattle.integer.specs.Parts.{◌⊑◌}
use Rattle.integer.specs.Size.{Within, weaken, below, add-within, neg-within}
use Rattle.lists.proofs.Bools.{true_of, lt-or-le}
use Rattle.lists.proofs.Tab.{length-tab, get_d-tab}
use Rattle.lists.proofs.AllOf.{all_of-get_d}
use Rattle.linear.specs.Ranges.{widest_activity, widest_change, TermFits, RowFits, BoxFits}
use Rattle.linear.specs.Reach.{span_of, widest_span, Reaches}
use Rattle.linear.proofs.Ranges.{row_fits, box-fits, term_fits, lower-within, upper-within}
use Rattle.linear.proofs.Reaching.{span_none, span-nested, span-size, activity-raised, activity-lowered, activity-size}
use Rattle.layout.specs.Rows.{row_length, number_in, cell, constraint_at, row_at, bounds_at, box_of, max_rows, rows_length}
use Rattle.layout.proofs.Rows.{length-box, coefficient-at, lower-at, upper-at, box-lower, box-upper}
use Rattle.propagate.specs.Tracked.{ScanFits, Known, TrackedAt, Tracked, Shiftable, Shifted, FirstAbove, Told}
use Rattle.bits.specs.Masks.{Opens}
use Rattle.propagate.proofs.Scans.{improved_at}

module _ {n kept : ℕ} {rows lower upper : List ℤ} (f : ScanFits n kept rows lower upper) where
  pub scan-row : (j : ℕ) → length rows ≡ rows_length → j < kept → RowFits n rows (row_length * j)
  unfolding row_at
  scan-row j e h =
      row_fits n rows (row_length * j) f.few (omega (arith, f.few, f.count))
      (rw (get_d-tab (row_at n rows) kept j no_constraint h) at
      (all_of-get_d in_range (tab (row_at n rows) 0 kept) j no_constraint (true_of _ f.constraints) (omega (arith, length-tab (row_at n rows) 0 kept))))

  pub scan-box : length lower ≡ max_variables → length upper ≡ max_variables → BoxFits n lower upper
  scan-box l u = box-fits n lower upper (true_of _ f.bounds) (omega (arith, f.few)) (omega (arith, f.few))

  -- one variable of a row and the box
  pub scan-term : (j i : ℕ) → length rows ≡ rows_length → j < kept → i < n → TermFits (cell rows (row_length * j) i) (number_in lower i) (number_in upper i)
  scan-term j i e h l =
      let b = true_of _ f.bounds in
      record { coefficient = (scan-row j e h).coefficients i l; low = weaken (lit≤ tt) (lower-within n lower upper b i l); high = weaken (lit≤ tt) (upper-within n lower upper b i l) }

-- ---- a bound's change is small
module _ {n kept : ℕ} {rows lower upper lower₁ upper₁ : List ℤ} (f : ScanFits n kept rows lower upper) (g : ScanFits n kept rows lower₁ upper₁) (i : ℕ) (h : i < n) where
  pub rise-size : Within widest_change (number_in lower₁ i -ℤ number_in lower i)
  rise-size = weaken (lit≤ tt) (add-within (lower-within n lower₁ upper₁ (true_of _ g.bounds) i h) (neg-within (lower-within n lower upper (true_of _ f.bounds) i h)))

  pub fall-size : Within widest_change (number_in upper₁ i -ℤ number_in upper i)
  fall-size = weaken (lit≤ tt) (add-within (upper-within n lower₁ upper₁ (true_of _ g.bounds) i h) (neg-within (upper-within n lower upper (true_of _ f.bounds) i h)))

pub shiftable : (n kept : ℕ) (rows lower upper activities reaches : List ℤ) (i : ℕ) (rise fall : ℤ) → ScanFits n kept rows lower upper → Tracked n rows lower upper activities reaches kept →
    i < n → Within widest_change rise → Within widest_change fall → Shiftable kept i rise fall rows activities
shiftable n kept rows lower upper activities reaches i rise fall f s h u d =
    record {
      count = f.count;
      variable = omega (arith, f.few);
      coefficients = λ j l. (scan-row f j s.long l).coefficients i h;
      sizes = λ j l. (s.at j l).size;
      up = u;
      down = d;
      room = s.room;
    }

-- ---- one number of an array set
module _ (xs : List ℤ) (j : ℕ) (v : ℤ) where
  pub number_same : j < length xs → number_in (set xs j v) j ≡ v
  unfolding number_in
  number_same h = get_or-set_same xs j v (pos 0) h

  pub number-other : (k : ℕ) → (k ≡ j → ⊥) → number_in (set xs j v) k ≡ number_in xs k
  unfolding number_in
  number-other k e = get_or-set_other xs j k v (pos 0) e

-- ---- the activities as a bound changes: those before j have changed, and none of them is above 0
pub record Shifting (i : ℕ) (rise fall : ℤ) (rows old new : List ℤ) (j : ℕ) : Type 0 where
  pub room : length new ≡ max_rows
  pub at : (k : ℕ) → k < j → number_in new k ≡ number_in old k +ℤ term (cell rows (row_length * k) i) (record { lower = rise; upper = fall })
  pub low : (k : ℕ) → k < j → number_in new k ≤ℤ pos 0
  pub rest : (k : ℕ) → j ≤ k → number_in new k ≡ number_in old k

module _ (i : ℕ) (rise fall : ℤ) (rows old : List ℤ) where
  pub shifting-start : length old ≡ max_rows → Shifting i rise fall rows old old 0
  shifting-start e = record { room = e; at = λ k h. absurd (omega arith); low = λ k h. absurd (omega arith); rest = λ k h. refl }

  -- the next activity, v now
  module _ (new : List ℤ) (j : ℕ) (v : ℤ) (s : Shifting i rise fall rows old new j) (l : j < max_rows)
      (e : v ≡ number_in new j +ℤ term (cell rows (row_length * j) i) (record { lower = rise; upper = fall })) where
    here : v ≡ number_in old j +ℤ term (cell rows (row_length * j) i) (record { lower = rise; upper = fall })
    here = e ∙ rw (s.rest j (omega arith))

    earlier : (P : ℕ → ℤ → Type 0) → ((k : ℕ) → k < j → P k (number_in new k)) → (k : ℕ) → k < j → P k (number_in (set new j v) k)
    earlier P q k h = rw (number-other new j v k (λ z. omega arith)) (q k h)

    pub shifting-more : v ≤ℤ pos 0 → Shifting i rise fall rows old (set new j v) (j + 1)
    shifting-more h =
        record {
          room = length-set new j v ∙ s.room;
          at = more (λ (k : ℕ) (w : ℤ). w ≡ number_in old k +ℤ term (cell rows (row_length * k) i) (record { lower = rise; upper = fall })) s.at here;
          low = more (λ (k : ℕ) (w : ℤ). w ≤ℤ pos 0) s.low h;
          rest = λ k q. number-other new j v k (λ z. omega arith) ∙ s.rest k (omega arith);
        }
      where
        more : (P : ℕ → ℤ → Type 0) → ((k : ℕ) → k < j → P k (number_in new k)) → P j v → (k : ℕ) → k < j + 1 → P k (number_in (set new j v) k)
        more P q p k h =
            ⊎_elim
            (λ (z : k ≡ j). subst (λ (x : ℕ). P x (number_in (set new j v) x)) (sym z) (rw (number_same new j v (omega (arith, s.room))) p))
            (λ (z : k < j). earlier P q k z)
            (eq-or-lt_of_le (omega arith))

    pub shifting-hit : (kept : ℕ) → j < kept → pos 0 <ℤ v → Shifted kept i rise fall rows old (set new j v) j
    shifting-hit kept h p =
        record {
          room = length-set new j v ∙ s.room;
          most = omega arith;
          at = earlier (λ (k : ℕ) (w : ℤ). w ≡ number_in old k +ℤ term (cell rows (row_length * k) i) (record { lower = rise; upper = fall })) s.at;
          low = earlier (λ (k : ℕ) (w : ℤ). w ≤ℤ pos 0) s.low;
          here = λ q. rw here at p;
        }

  pub shifting-end : (new : List ℤ) (kept : ℕ) → Shifting i rise fall rows old new kept → Shifted kept i rise fall rows old new kept
  shifting-end new kept s = record { room = s.room; most = omega arith; at = s.at; low = s.low; here = λ q. absurd (omega arith) }

-- ---- tracked, one by one
module _ (n : ℕ) (rows lower upper : List ℤ) where
  -- at the same numbers
  tracked-at : (a b c d : List ℤ) (j : ℕ) → number_in c j ≡ number_in a j → number_in d j ≡ number_in b j → TrackedAt n rows lower upper a b j → TrackedAt n rows lower upper c d j
  tracked-at a b c d j e g t = record { same = e ∙ t.same; size = rw e t.size; reach = rw g t.reach }

  pub tracked-more : (activities reaches : List ℤ) (j : ℕ) (v w : ℤ) → j < max_rows → Tracked n rows lower upper activities reaches j →
      v ≡ activity (row_at n rows j) (box_of n lower upper) → Within widest_activity v → Reaches n rows (row_length * j) lower upper w →
      Tracked n rows lower upper (set activities j v) (set reaches j w) (j + 1)
  tracked-more activities reaches j v w l s e z r =
      record { long = s.long; room = length-set activities j v ∙ s.room; reach_room = length-set reaches j w ∙ s.reach_room; at = at }
    where
      new : TrackedAt n rows lower upper (set activities j v) (set reaches j w) j
      new =
          let p = number_same activities j v (omega (arith, s.room)) in
          let q = number_same reaches j w (omega (arith, s.reach_room)) in
          record { same = p ∙ e; size = rw p z; reach = rw q r }

      at : (k : ℕ) → k < j + 1 → TrackedAt n rows lower upper (set activities j v) (set reaches j w) k
      at k h =
          ⊎_elim
          (λ (q : k ≡ j). subst (TrackedAt n rows lower upper (set activities j v) (set reaches j w)) (sym q) new)
          (λ (q : k < j). tracked-at activities reaches (set activities j v) (set reaches j w) k (number-other activities j v k (λ z. omega arith)) (number-other reaches j w k (λ z. omega arith)) (s.at k q))
          (eq-or-lt_of_le (omega arith))

  -- constraint j reaches w
  pub tracked-reach : (activities reaches : List ℤ) (kept j : ℕ) (w : ℤ) → j < kept → kept ≤ max_rows → Tracked n rows lower upper activities reaches kept →
      Reaches n rows (row_length * j) lower upper w → Tracked n rows lower upper activities (set reaches j w) kept
  tracked-reach activities reaches kept j w h l s r =
      record { long = s.long; room = s.room; reach_room = length-set reaches j w ∙ s.reach_room; at = at }
    where
      at : (k : ℕ) → k < kept → TrackedAt n rows lower upper activities (set reaches j w) k
      at k m =
          let t = s.at k m in
          ⊎_elim
          (λ (q : k < j). tracked-at activities reaches activities (set reaches j w) k refl (number-other reaches j w k (λ z. omega arith)) t)
          (λ (q : j ≤ k). ⊎_elim
          (λ (e : j ≡ k). record { same = t.same; size = t.size; reach = subst (λ (x : ℕ). Reaches n rows (row_length * x) lower upper (number_in (set reaches j w) x)) e (rw (number_same reaches j w (omega (arith, s.reach_room))) r) })
          (λ (e : j < k). tracked-at activities reaches activities (set reaches j w) k refl (number-other reaches j w k (λ z. omega arith)) t)
          (eq-or-lt_of_le q))
          (lt-or-le k j)

  pub tracked-some : (activities reaches : List ℤ) (j kept : ℕ) → kept ≤ j → Tracked n rows lower upper activities reaches j → Tracked n rows lower upper activities reaches kept
  tracked-some activities reaches j kept h s = record { long = s.long; room = s.room; reach_room = s.reach_room; at = λ k l. s.at k (omega arith) }

-- what is not known yet is more than any span
pub unknown-reach : (n : ℕ) (rows : List ℤ) (start : ℕ) (lower upper : List ℤ) → RowFits n rows start → BoxFits n lower upper → Reaches n rows start lower upper (pos widest_span)
unknown-reach n rows start lower upper r b =
    record { spans = λ i h. unfold bounds_at in below (span-size _ _ (term_fits r b i h)); size = record { within = omega arith } }

-- ---- move 1
-- told by a scan of the activities
pub told-start : (n kept : ℕ) (rows lower upper activities reaches : List ℤ) (r : ℕ) → Tracked n rows lower upper activities reaches kept → FirstAbove kept activities r →
    Told n rows lower upper activities reaches kept r
told-start n kept rows lower upper activities reaches r s a =
    record {
      lengths = tracked-some n rows lower upper activities reaches kept 0 (omega arith) s;
      most = a.most;
      before = λ j h. rw (← (s.at j (omega (arith, a.most))).same) (a.before j h);
      here = λ h. rw (← (s.at r h).same) (a.here h);
      tracked = λ e. s;
    }

-- ---- move 2: where the slack is no less than a variable's span, the constraint improves neither of its bounds
pub span-quiet : (n : ℕ) (rows lower upper : List ℤ) (j i : ℕ) (a : ℤ) → a ≡ activity (row_at n rows j) (box_of n lower upper) →
    span_of (cell rows (row_length * j) i) (bounds_at lower upper i) ≤ℤ (pos 0 -ℤ a) → improved_at n rows lower upper j i ≡ none
unfolding improved_at
span-quiet n rows lower upper j i a e l =
    span_none (activity (row_at n rows j) (box_of n lower upper)) (cell rows (row_length * j) i) (bounds_at lower upper i) j i (rw e at l)

-- and where it is no less than what the constraint reaches, it improves no bound
pub known-none : (n : ℕ) (rows lower upper : List ℤ) (j : ℕ) (a r : ℤ) → Known n rows lower upper j a r → r ≤ℤ (pos 0 -ℤ a) → (i : ℕ) → i < n → improved_at n rows lower upper j i ≡ none
known-none n rows lower upper j a r t l i h = span-quiet n rows lower upper j i a t.same (≤_trans (t.reach.spans i h) l)

-- ---- a bound set at variable i: the box closes in, and each activity moves by the term of the change
pub record Closes (n : ℕ) (rows lower upper lower₁ upper₁ : List ℤ) (i : ℕ) (rise fall : ℤ) : Type 0 where
  pub inside : (k : ℕ) → k < n → (number_in lower k ⊑ number_in lower₁ k) × (number_in upper₁ k ⊑ number_in upper k)
  pub moves : (j : ℕ) → activity (row_at n rows j) (box_of n lower₁ upper₁) ≡ activity (row_at n rows j) (box_of n lower upper) +ℤ term (cell rows (row_length * j) i) (record { lower = rise; upper = fall })

pub opens-closer : (n : ℕ) (rows lower upper lower₁ upper₁ : List ℤ) (i mask : ℕ) (rise fall : ℤ) → Closes n rows lower upper lower₁ upper₁ i rise fall → Opens n lower upper mask → Opens n lower₁ upper₁ mask
opens-closer n rows lower upper lower₁ upper₁ i mask rise fall c o =
    record { few = o.few; rest = λ k h e. le (var (number_in upper₁ k)) (var (number_in lower₁ k)) (omega (arith, (c.inside k h).0, (c.inside k h).1, of_le (var (number_in upper k)) (var (number_in lower k)) (o.rest k h e))) }

module _ (n kept : ℕ) (rows lower upper lower₁ upper₁ activities reaches new : List ℤ) (i r : ℕ) (rise fall : ℤ) (s : Tracked n rows lower upper activities reaches kept)
    (f : ScanFits n kept rows lower₁ upper₁) (l : length lower₁ ≡ max_variables) (u : length upper₁ ≡ max_variables) (c : Closes n rows lower upper lower₁ upper₁ i rise fall)
    (h : Shifted kept i rise fall rows activities new r) where
  moved : (j : ℕ) → j < kept → number_in activities j +ℤ term (cell rows (row_length * j) i) (record { lower = rise; upper = fall }) ≡ activity (row_at n rows j) (box_of n lower₁ upper₁)
  moved j m = rw (s.at j m).same (sym (c.moves j))

  known : (j : ℕ) → j < r → TrackedAt n rows lower₁ upper₁ new reaches j
  unfolding row_at bounds_at
  known j m =
      let t = s.at j (omega (arith, h.most)) in
      let e = h.at j m ∙ moved j (omega (arith, h.most)) in
      record {
        same = e;
        size = rw e (activity-size n rows (row_length * j) lower₁ upper₁ (scan-row f j s.long (omega (arith, h.most))) (scan-box f l u));
        reach = record {
          spans = λ k b. ≤_trans (span-nested (cell rows (row_length * j) k) (bounds_at lower₁ upper₁ k) (bounds_at lower upper k) (c.inside k b).0 (c.inside k b).1) (t.reach.spans k b);
          size = t.reach.size;
        };
      }

  pub told-set : Told n rows lower₁ upper₁ new reaches kept r
  told-set =
      record {
        lengths = record { long = s.long; room = h.room; reach_room = s.reach_room; at = λ j m. absurd (omega arith) };
        most = h.most;
        before = λ j m. rw (← h.at j m ∙ moved j (omega (arith, h.most))) (h.low j m);
        here = λ m. rw (← moved r m) (h.here m);
        tracked = λ e. record { long = s.long; room = h.room; reach_room = s.reach_room; at = λ j m. known j (omega arith) };
      }

-- on one side, at variable i alone
one_side : (P : ℕ → ℤ → Type 0) (xs : List ℤ) (i : ℕ) (v : ℤ) → i < length xs → P i v → ((k : ℕ) → P k (number_in xs k)) → (k : ℕ) → P k (number_in (set xs i v) k)
one_side P xs i v l p q k =
    ⊎_elim
    (λ (h : k < i). rw (number-other xs i v k (λ z. omega arith)) (q k))
    (λ (h : i ≤ k). ⊎_elim
    (λ (e : i ≡ k). subst (λ (x : ℕ). P x (number_in (set xs i v) x)) e (rw (number_same xs i v l) p))
    (λ (e : i < k). rw (number-other xs i v k (λ z. omega arith)) (q k))
    (eq-or-lt_of_le h))
    (lt-or-le k i)

module _ (n : ℕ) (rows lower upper : List ℤ) (i : ℕ) (v : ℤ) (h : i < n) where
  pub raised-closes : n ≤ length lower → number_in lower i ⊑ v → Closes n rows lower upper (set lower i v) upper i (v -ℤ number_in lower i) (pos 0)
  unfolding row_at
  raised-closes l b =
      record {
        inside = λ k m. (one_side (λ (x : ℕ) (w : ℤ). number_in lower x ⊑ w) lower i v (omega arith) b (λ x. omega arith) k, omega arith);
        moves = λ j. rw (box-lower n lower upper i v h (omega arith), activity-raised (constraint_at n rows (row_length * j)) (box_of n lower upper) i v (omega (arith, length-box n lower upper)), coefficient-at n rows (row_length * j) i h, lower-at n lower upper i h);
      }

  pub lowered-closes : n ≤ length upper → v ⊑ number_in upper i → Closes n rows lower upper lower (set upper i v) i (pos 0) (v -ℤ number_in upper i)
  unfolding row_at
  lowered-closes u b =
      record {
        inside = λ k m. (omega arith, one_side (λ (x : ℕ) (w : ℤ). w ⊑ number_in upper x) upper i v (omega arith) b (λ x. omega arith) k);
        moves = λ j. rw (box-upper n lower upper i v h (omega arith), activity-lowered (constraint_at n rows (row_length * j)) (box_of n lower upper) i v (omega (arith, length-box n lower upper)), coefficient-at n rows (row_length * j) i h, upper-at n lower upper i h);
      }
