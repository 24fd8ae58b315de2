-- Newer rows over older ones, row by row.
use Rattle.std.proofs.Common.{◌≡◌, ℕ, ◌+◌, ◌<◌, List, [], ◌∷◌, ◌++◌, ◌≤◌, length, get_or, take, drop, true, false, cond, refl, sym, ap, ◌∙◌, subst, arith, inl, inr}
use Rattle.std.specs.Prelude.{not, Option, Some, None}
use Rattle.std.specs.List.{slice_get}
use Rattle.std.proofs.lemmas.Option.{slice_get_within, slice_get_cases, get_or_from_slice_get}
use Rattle.std.proofs.lemmas.Bool.{cases_lt}
use Rattle.std.proofs.lemmas.List.{drop_more, drop_all, length-drop, append_assoc, append-nil}
use Rattle.std.proofs.lemmas.List.Elements.{All-cons, All-head, All-tail, All-nil, All-filter}
use Rattle.std.specs.declared.cmp.Ordering.TheVariants.{Less, Equal, Greater}
use Rattle.std.specs.FinMap.Entries.{by_order}
use Rattle.pb_keys.specs.Key.{key_cmp}
use Rattle.pb_keys.specs.KeyLaws.{key_cmp_exact}
use Rattle.pb_keys.specs.Span.{KeySpan}
use Rattle.pb_rangedel.specs.Merging.{rest_of, hides_row, IsStep, IsNext, step_for}
use Rattle.pb_rangedel.specs.declared.rows.Step.TheVariants.{Newer, Older, Skip}
use Rattle.pb_rows.specs.Layer.{KeyRow, Rise}
use Rattle.pb_rows.specs.Over.{with_row, rows_over, uncovered}
use Rattle.pb_rows.specs.Verdict.{is_covered}
use Rattle.pb_rows.proofs.RowsOver.{Follow, Rising, rising_from_rise, rise_from_rising, rising-drop, chained, all-rows_over, turned_greater, turned_less}

-- ---- the first row of the result

pub front_row : (row : KeyRow) (rows : List KeyRow) → Follow row.key rows → with_row row rows ≡ row ∷ rows
front_row row [] follow = refl
front_row row (s ∷ ss) follow =
    ap (λ o. by_order o (row ∷ s ∷ ss) (row ∷ ss) (s ∷ with_row row ss)) (All-head (λ r. key_cmp row.key r.key ≡ Less) s ss follow)

newer_front : (row : KeyRow) (newer older : List KeyRow) → Follow row.key newer → Follow row.key older → rows_over (row ∷ newer) older ≡ row ∷ rows_over newer older
newer_front row newer older new old = front_row row (rows_over newer older) (all-rows_over (λ r. key_cmp row.key r.key ≡ Less) newer older new old)

older_front : (newer : List KeyRow) (row : KeyRow) (older : List KeyRow) → Follow row.key newer → rows_over newer (row ∷ older) ≡ row ∷ rows_over newer older
older_front [] row older follow = refl
older_front (s ∷ newer) row older follow =
    let P = λ (r : KeyRow). key_cmp row.key r.key ≡ Less in
    ap (with_row s) (older_front newer row older (All-tail P s newer follow))
    ∙ ap (λ o. by_order o (s ∷ row ∷ rows_over newer older) (s ∷ rows_over newer older) (row ∷ with_row s (rows_over newer older))) (turned_less row.key s.key (All-head P s newer follow))

same_front : (s row : KeyRow) (newer older : List KeyRow) → key_cmp s.key row.key ≡ Equal → Follow s.key newer → Follow s.key older → rows_over (s ∷ newer) (row ∷ older) ≡ rows_over (s ∷ newer) older
same_front s row newer older e new old =
    ap (with_row s) (older_front newer row older (subst (λ key. Follow key newer) (key_cmp_exact s.key row.key e) new))
    ∙ ap (λ o. by_order o (s ∷ row ∷ rows_over newer older) (s ∷ rows_over newer older) (row ∷ with_row s (rows_over newer older))) e
    ∙ sym (newer_front s newer older new old)

-- ---- at places of both lists

rest_follows : (rows : List KeyRow) (at : ℕ) (d : KeyRow) → Rise rows → at < length rows → Follow (get_or rows at d).key (drop (at + 1) rows)
rest_follows rows at d rise within = (subst Rising (drop_more rows at d within) (rising-drop at rows (rising_from_rise rows rise))).0

pub drop_follows : (key : List ℕ) (rows : List KeyRow) (at : ℕ) (d : KeyRow) → Rise rows → (at < length rows → key_cmp key (get_or rows at d).key ≡ Less) → Follow key (drop at rows)
drop_follows key rows at d rise less =
    elim (cases_lt at (length rows)) [
      | inl within ↦ subst (Follow key) (sym (drop_more rows at d within))
          (All-cons (λ row. key_cmp key row.key ≡ Less) (get_or rows at d) (drop (at + 1) rows) (less within)
          (chained key (get_or rows at d).key (drop (at + 1) rows) (less within) (rest_follows rows at d rise within)))
      | inr past ↦ subst (Follow key) (sym (drop_all at rows past)) (All-nil (λ row. key_cmp key row.key ≡ Less))
    ]

uncovered_follow : (dels : List KeySpan) (key : List ℕ) (rows : List KeyRow) → Follow key rows → Follow key (uncovered dels rows)
uncovered_follow dels key rows follow = All-filter (λ row. not (is_covered dels row.key)) (λ row. key_cmp key row.key ≡ Less) rows follow

uncovered_here : (dels : List KeySpan) (rows : List KeyRow) (at : ℕ) (d : KeyRow) → at < length rows → is_covered dels (get_or rows at d).key ≡ false → uncovered dels (drop at rows) ≡ get_or rows at d ∷ uncovered dels (drop (at + 1) rows)
uncovered_here dels rows at d within bare =
    let row = get_or rows at d in let later = uncovered dels (drop (at + 1) rows) in
    ap (uncovered dels) (drop_more rows at d within) ∙ ap (λ b. cond (not b) (row ∷ later) later) bare

pub step_newer : (dels : List KeySpan) (newer older : List KeyRow) (new old : ℕ) (d : KeyRow) → Rise newer → Rise older → new < length newer → (old < length older → key_cmp (get_or newer new d).key (get_or older old d).key ≡ Less) → rest_of dels newer older new old ≡ get_or newer new d ∷ rest_of dels newer older (new + 1) old
step_newer dels newer older new old d rise_newer rise_older within less =
    let row = get_or newer new d in
    ap (λ rows. rows_over rows (uncovered dels (drop old older))) (drop_more newer new d within)
    ∙ newer_front row (drop (new + 1) newer) (uncovered dels (drop old older)) (rest_follows newer new d rise_newer within)
    (uncovered_follow dels row.key (drop old older) (drop_follows row.key older old d rise_older less))

pub step_older : (dels : List KeySpan) (newer older : List KeyRow) (new old : ℕ) (d : KeyRow) → Rise newer → old < length older → is_covered dels (get_or older old d).key ≡ false → (new < length newer → key_cmp (get_or newer new d).key (get_or older old d).key ≡ Greater) → rest_of dels newer older new old ≡ get_or older old d ∷ rest_of dels newer older new (old + 1)
step_older dels newer older new old d rise within bare greater =
    let row = get_or older old d in
    ap (rows_over (drop new newer)) (uncovered_here dels older old d within bare)
    ∙ older_front (drop new newer) row (uncovered dels (drop (old + 1) older)) (drop_follows row.key newer new d rise (λ h. turned_greater (get_or newer new d).key row.key (greater h)))

pub step_same : (dels : List KeySpan) (newer older : List KeyRow) (new old : ℕ) (d : KeyRow) → Rise newer → Rise older → new < length newer → old < length older → is_covered dels (get_or older old d).key ≡ false → key_cmp (get_or newer new d).key (get_or older old d).key ≡ Equal → rest_of dels newer older new old ≡ rest_of dels newer older new (old + 1)
step_same dels newer older new old d rise_newer rise_older within_newer within_older bare same =
    let row = get_or newer new d in
    let rest = uncovered dels (drop (old + 1) older) in
    let follows = subst (λ key. Follow key (drop (old + 1) older)) (sym (key_cmp_exact row.key (get_or older old d).key same)) (rest_follows older old d rise_older within_older) in
    (λ i. rows_over (drop_more newer new d within_newer i) (uncovered_here dels older old d within_older bare i))
    ∙ same_front row (get_or older old d) (drop (new + 1) newer) rest same (rest_follows newer new d rise_newer within_newer) (uncovered_follow dels row.key (drop (old + 1) older) follows)
    ∙ ap (λ rows. rows_over rows rest) (sym (drop_more newer new d within_newer))

-- ---- by the rows that come next

place_of : (rows : List KeyRow) (at : ℕ) (row d : KeyRow) → Some row ≡ slice_get rows at → (at < length rows) × (get_or rows at d ≡ row)
place_of rows at row d is = (slice_get_within rows at row (sym is), get_or_from_slice_get rows at row d (sym is))

past_place : (rows : List KeyRow) (at : ℕ) → None ≡ slice_get rows at → at < length rows → ⊥
past_place rows at is within = elim (slice_get_cases rows at).1 [ inl here ↦ cc (here.2) | inr past ↦ omega (arith, past.0) ]

pub none_next : (dels : List KeySpan) (newer older : List KeyRow) (new old : ℕ) → None ≡ slice_get newer new → None ≡ slice_get older old → rest_of dels newer older new old ≡ []
none_next dels newer older new old n o =
    (λ i. rows_over (drop_all new newer (past newer new n) i) (uncovered dels (drop_all old older (past older old o) i)))
  where
    past : (rows : List KeyRow) (at : ℕ) → None ≡ slice_get rows at → length rows ≤ at
    past rows at is = elim (cases_lt at (length rows)) [ inl within ↦ absurd (past_place rows at is within) | inr h ↦ h ]

pub newer_next : (dels : List KeySpan) (newer older : List KeyRow) (new old : ℕ) (row : KeyRow) → Rise newer → Rise older → Some row ≡ slice_get newer new → None ≡ slice_get older old → IsStep Newer dels newer older new old
newer_next dels newer older new old row rise_newer rise_older n o =
    let within = (place_of newer new row row n).0 in
    (within, λ d. step_newer dels newer older new old d rise_newer rise_older within (λ h. absurd (past_place older old o h)))

pub skip_next : (dels : List KeySpan) (newer older : List KeyRow) (new old : ℕ) (row : KeyRow) → Some row ≡ slice_get older old → is_covered dels row.key ≡ true → IsStep Skip dels newer older new old
skip_next dels newer older new old row o covered =
    let at = place_of older old row row o in
    let later = uncovered dels (drop (old + 1) older) in (
      at.0,
      ap (rows_over (drop new newer)) (
          ap (uncovered dels) (drop_more older old row at.0)
          ∙ ap (λ (r : KeyRow). cond (not (is_covered dels r.key)) (r ∷ later) later) at.1
          ∙ ap (λ b. cond (not b) (row ∷ later) later) covered),
    )

pub open_next : (dels : List KeySpan) (newer older : List KeyRow) (new old : ℕ) (first : Option KeyRow) (row : KeyRow) → Rise newer → Rise older → first ≡ slice_get newer new → Some row ≡ slice_get older old → is_covered dels row.key ≡ false → IsNext (step_for first (Some row)) dels newer older new old
open_next dels newer older new old None row rise_newer rise_older n o bare =
    let at = place_of older old row row o in
    (at.0, λ d. step_older dels newer older new old d rise_newer at.0 (ap (λ (r : KeyRow). is_covered dels r.key) (place_of older old row d o).1 ∙ bare) (λ h. absurd (past_place newer new n h)))
open_next dels newer older new old (Some first) row rise_newer rise_older n o bare =
    let old_at = λ (d : KeyRow). place_of older old row d o in
    let new_at = λ (d : KeyRow). place_of newer new first d n in
    let bare_at = λ (d : KeyRow). ap (λ (r : KeyRow). is_covered dels r.key) (old_at d).1 ∙ bare in
    let order : (d : KeyRow) → key_cmp (get_or newer new d).key (get_or older old d).key ≡ key_cmp first.key row.key = λ d i. key_cmp ((new_at d).1 i).key ((old_at d).1 i).key in
    elim (key_cmp first.key row.key) as (λ c. key_cmp first.key row.key ≡ c → IsStep (by_order c Newer Skip Older) dels newer older new old) [
      | Less ↦ λ e. ((new_at first).0, λ d. step_newer dels newer older new old d rise_newer rise_older (new_at d).0 (λ _. order d ∙ e))
      | Equal ↦ λ e. ((old_at row).0, step_same dels newer older new old row rise_newer rise_older (new_at row).0 (old_at row).0 (bare_at row) (order row ∙ e))
      | Greater ↦ λ e. ((old_at row).0, λ d. step_older dels newer older new old d rise_newer (old_at d).0 (bare_at d) (λ _. order d ∙ e))
    ] refl

pub next_is : (dels : List KeySpan) (newer older : List KeyRow) (new old : ℕ) (first row : Option KeyRow) → Rise newer → Rise older → first ≡ slice_get newer new → row ≡ slice_get older old → hides_row dels row ≡ false → IsNext (step_for first row) dels newer older new old
next_is dels newer older new old None None rise_newer rise_older n o bare = none_next dels newer older new old n o
next_is dels newer older new old (Some first) None rise_newer rise_older n o bare = newer_next dels newer older new old first rise_newer rise_older n o
next_is dels newer older new old None (Some row) rise_newer rise_older n o bare = open_next dels newer older new old None row rise_newer rise_older n o bare
next_is dels newer older new old (Some first) (Some row) rise_newer rise_older n o bare = open_next dels newer older new old (Some first) row rise_newer rise_older n o bare

pub skip_is : (dels : List KeySpan) (newer older : List KeyRow) (new old : ℕ) (row : Option KeyRow) → row ≡ slice_get older old → hides_row dels row ≡ true → IsStep Skip dels newer older new old
skip_is dels newer older new old None o hidden = cc
skip_is dels newer older new old (Some row) o hidden = skip_next dels newer older new old row o hidden

-- ---- the first row of a list that is moved

pub rise_rest : (rows rest : List KeyRow) → Rise rows → rest ≡ drop 1 rows → Rise rest
rise_rest rows rest rise is = subst Rise (sym is) (rise_from_rising (drop 1 rows) (rising-drop 1 rows (rising_from_rise rows rise)))

pub fewer_rest : (rows rest : List KeyRow) → 0 < length rows → rest ≡ drop 1 rows → length rest < length rows
fewer_rest rows rest some is = omega (arith, ap length is, length-drop 1 rows)

pub moved_newer : (dels : List KeySpan) (newer older rest out more all : List KeyRow) → IsStep Newer dels newer older 0 0 → more ≡ out ++ take 1 newer → rest ≡ drop 1 newer → out ++ rest_of dels newer older 0 0 ≡ all → more ++ rest_of dels rest older 0 0 ≡ all
moved_newer dels [] older rest out more all step more_is rest_is whole = absurd (omega (arith, step.0))
moved_newer dels (r ∷ rs) older rest out more all step more_is rest_is whole =
    (λ i. more_is i ++ rest_of dels (rest_is i) older 0 0) ∙ append_assoc out (r ∷ []) (rest_of dels rs older 0 0)
    ∙ ap (λ (rows : List KeyRow). out ++ rows) (sym (step.1 r)) ∙ whole

pub moved_older : (dels : List KeySpan) (newer older rest out more all : List KeyRow) → IsStep Older dels newer older 0 0 → more ≡ out ++ take 1 older → rest ≡ drop 1 older → out ++ rest_of dels newer older 0 0 ≡ all → more ++ rest_of dels newer rest 0 0 ≡ all
moved_older dels newer [] rest out more all step more_is rest_is whole = absurd (omega (arith, step.0))
moved_older dels newer (r ∷ rs) rest out more all step more_is rest_is whole =
    (λ i. more_is i ++ rest_of dels newer (rest_is i) 0 0) ∙ append_assoc out (r ∷ []) (rest_of dels newer rs 0 0)
    ∙ ap (λ (rows : List KeyRow). out ++ rows) (sym (step.1 r)) ∙ whole

pub skipped_older : (dels : List KeySpan) (newer older rest out all : List KeyRow) → IsStep Skip dels newer older 0 0 → rest ≡ drop 1 older → out ++ rest_of dels newer older 0 0 ≡ all → out ++ rest_of dels newer rest 0 0 ≡ all
skipped_older dels newer older rest out all step rest_is whole =
    ap (λ (rows : List KeyRow). out ++ rest_of dels newer rows 0 0) rest_is ∙ ap (λ (rows : List KeyRow). out ++ rows) (sym step.1) ∙ whole

pub all_written : (dels : List KeySpan) (newer older out all : List KeyRow) (new old : ℕ) → rest_of dels newer older new old ≡ [] → out ++ rest_of dels newer older new old ≡ all → out ≡ all
all_written dels newer older out all new old none whole = sym (append-nil out) ∙ ap (λ (rows : List KeyRow). out ++ rows) (sym none) ∙ whole
