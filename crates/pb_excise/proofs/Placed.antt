-- The parts of a level, placed into the tables that stay, make the level that is left.
use Rattle.std.proofs.Common.{◌≡◌, ℕ, ◌+◌, List, [], ◌∷◌, ◌++◌, Bool, true, false, cond, length, refl, ap, sym, ◌∙◌}
use Rattle.std.specs.Prelude.{not, ◌&&◌, ◌||◌, All}
use Rattle.std.specs.List.{filter, list_all, AllByRecursion}
use Rattle.std.proofs.lemmas.List.Elements.{All-head, All-tail}
use Rattle.std.proofs.lemmas.List.Folds.{list_all-append}
use Rattle.pb_keys.specs.Order.{is_below, lesser, greater}
use Rattle.pb_keys.specs.Span.{KeySpan, IsSpan, span_of, overlap}
use Rattle.pb_keys.proofs.EndFacts.{below-greater}
use Rattle.pb_keys.proofs.Forms.{span_says}
use Rattle.pb_keys.proofs.OrderFacts.{below_chain}
use Rattle.pb_span_cases.specs.Remainder.{remains}
use Rattle.pb_span_cases.proofs.RemainLaws.{remains_in_form}
use Rattle.pb_version.specs.Version.{TableView}
use Rattle.pb_version.specs.Edited.{all_placed, comes_before}
use Rattle.pb_version.specs.Rules.{each_pair, are_apart, is_plain_view}
use Rattle.pb_version.proofs.Lists.{left, right}
use Rattle.pb_version.proofs.Pairs.{weaker}
use Rattle.pb_version.proofs.Commute.{all_placed_append, first_placed}
use Rattle.pb_version.proofs.Kept.{view_span, rises}
use Rattle.pb_excise.specs.Excised.{parts_of, part_table, numbered_parts, left_of, excised_tables}
use Rattle.pb_version.specs.Above.{lies_within}
use Rattle.pb_excise.specs.Planned.{is_cut, parts_from}
use Rattle.pb_excise.proofs.Above.{remains_within}
use Rattle.pb_excise.proofs.Before.{StandsFor, part_before, before_one_way, starts_before, stands_itself}

-- ---- placing in front of a list, and behind an element

in_front : {X : Type 0} (f : X → X → Bool) (xs zs : List X) → each_pair f xs ≡ true → list_all (λ x. list_all (f x) zs) xs ≡ true →
    all_placed f xs zs ≡ xs ++ zs
in_front f [] zs e before = refl
in_front f (x ∷ xs) zs e before =
    ap (λ l. all_placed f (x ∷ []) l) (in_front f xs zs (right (list_all (f x) xs) (each_pair f xs) e)
    (right (list_all (f x) zs) (list_all (λ y. list_all (f y) zs) xs) before))
    ∙ first_placed f x (xs ++ zs)
    (list_all-append (f x) xs zs
    ∙ (λ i. left (list_all (f x) xs) (each_pair f xs) e i && left (list_all (f x) zs) (list_all (λ y. list_all (f y) zs) xs) before i))

not_true : (b : Bool) → not b ≡ true → b ≡ false
not_true true e = sym e
not_true false e = refl

behind : {X : Type 0} (f : X → X → Bool) (t : X) (xs zs : List X) → list_all (λ x. not (f x t)) xs ≡ true →
    all_placed f xs (t ∷ zs) ≡ t ∷ all_placed f xs zs
behind f t [] zs e = refl
behind f t (x ∷ xs) zs e =
    ap (λ l. all_placed f (x ∷ []) l) (behind f t xs zs (right (not (f x t)) (list_all (λ y. not (f y t)) xs) e))
    ∙ ap (λ b. cond b (x ∷ t ∷ all_placed f xs zs) (t ∷ all_placed f (x ∷ []) (all_placed f xs zs)))
    (not_true (f x t) (left (not (f x t)) (list_all (λ y. not (f y t)) xs) e))

module _ (cut : KeySpan) (cut_is : IsSpan cut) where
  -- ---- parts stand for their table

  numbered_stand : (t : TableView) (n : ℕ) (parts : List KeySpan) → All (λ part. lies_within part t.view.bounds ≡ true) parts →
      All IsSpan parts →
      AllByRecursion (StandsFor t) (numbered_parts t n parts)
  numbered_stand t n [] within spans = tt
  numbered_stand t n (part ∷ parts) within spans = (
    record {
      rank = refl;
      within = All-head (λ s. lies_within s t.view.bounds ≡ true) part parts within;
      rises = (All-head IsSpan part parts spans).rises;
    },
    numbered_stand t (n + 1) parts (All-tail (λ s. lies_within s t.view.bounds ≡ true) part parts within)
        (All-tail IsSpan part parts spans),
  )

  remains_stand : (t : TableView) (n : ℕ) → is_plain_view t.view ≡ true →
      AllByRecursion (StandsFor t) (numbered_parts t n (remains t.view.bounds cut))
  remains_stand t n view = numbered_stand t n (remains t.view.bounds cut) (remains_within t.view.bounds cut)
      (remains_in_form t.view.bounds cut (span_says t.view.bounds (view_span t view)) cut_is)

  parts_stand : (t : TableView) (n : ℕ) → is_plain_view t.view ≡ true → AllByRecursion (StandsFor t) (numbered_parts t n (parts_of cut t))
  parts_stand t n view =
      elim (overlap t.view.bounds cut) as (λ b. AllByRecursion (StandsFor t) (numbered_parts t n (cond b (remains t.view.bounds cut) []))) [
        | true ↦ remains_stand t n view
        | false ↦ tt
      ]

  pub left_stands : (t : TableView) (n : ℕ) → is_plain_view t.view ≡ true → AllByRecursion (StandsFor t) (left_of cut n t)
  left_stands t n view =
      elim (overlap t.view.bounds cut) as (λ b. AllByRecursion (StandsFor t) (cond b (numbered_parts t n (remains t.view.bounds cut))
      (t ∷ []))) [
        | true ↦ remains_stand t n view
        | false ↦ (stands_itself t view, tt)
      ]

  -- ---- the left part comes first

  module _ (level : ℕ) where
    abbrev first : TableView → TableView → Bool
    first = comes_before level

    two_parts : (t : TableView) (n : ℕ) (s e : Bool) (a b : KeySpan) → (s ≡ true → is_below a.lo b.lo ≡ true) →
        each_pair first (numbered_parts t n (cond s (a ∷ []) [] ++ cond e (b ∷ []) [])) ≡ true
    two_parts t n true true a b f = λ i. (starts_before level (part_table t n a) (part_table t (n + 1) b) refl (f refl) i && true) && true
    two_parts t n true false a b f = refl
    two_parts t n false true a b f = refl
    two_parts t n false false a b f = refl

    left_before_right : (t : TableView) (n : ℕ) → each_pair first (numbered_parts t n (remains t.view.bounds cut)) ≡ true
    left_before_right t n =
        let lo = t.view.bounds.lo in let hi = t.view.bounds.hi in
        two_parts t n (is_below lo cut.lo) (is_below cut.hi hi) (span_of lo (lesser hi cut.lo)) (span_of (greater cut.hi lo) hi)
        (λ begins. below-greater lo cut.hi lo ∙ ap (λ b. b || is_below lo lo) (below_chain lo cut.lo cut.hi begins cut_is.rises))

    -- ---- what stands for a table before what stands for the later ones

    before_each : (t u p : TableView) (qs : List TableView) → StandsFor t p → AllByRecursion (StandsFor u) qs →
        is_plain_view u.view ≡ true →
        first t u ≡ true → are_apart level t u ≡ true → list_all (first p) qs ≡ true
    before_each t u p [] is_p are view e apart = refl
    before_each t u p (q ∷ qs) is_p are view e apart = λ i.
        part_before level t u p q is_p are.0 (rises u view) e apart i && before_each t u p qs is_p are.1 view e apart i

    -- the table t comes before these, and is apart from them
    record Leads (t : TableView) (us : List TableView) : Type 0 where
      before : list_all (first t) us ≡ true
      apart : list_all (are_apart level t) us ≡ true
      views : list_all (λ (u : TableView). is_plain_view u.view) us ≡ true

    leads_on : (t u : TableView) (us : List TableView) → Leads t (u ∷ us) → Leads t us
    leads_on t u us leads = record {
      before = right (first t u) (list_all (first t) us) leads.before;
      apart = right (are_apart level t u) (list_all (are_apart level t) us) leads.apart;
      views = right (is_plain_view u.view) (list_all (λ (w : TableView). is_plain_view w.view) us) leads.views;
    }

    before_next : (t u p : TableView) (us qs : List TableView) → Leads t (u ∷ us) → StandsFor t p → AllByRecursion (StandsFor u) qs →
        list_all (first p) qs ≡ true
    before_next t u p us qs leads is_p are = before_each t u p qs is_p are
        (left (is_plain_view u.view) (list_all (λ (w : TableView). is_plain_view w.view) us) leads.views)
        (left (first t u) (list_all (first t) us) leads.before) (left (are_apart level t u) (list_all (are_apart level t) us) leads.apart)

    view_of : (t u : TableView) (us : List TableView) → Leads t (u ∷ us) → is_plain_view u.view ≡ true
    view_of t u us leads = left (is_plain_view u.view) (list_all (λ (w : TableView). is_plain_view w.view) us) leads.views

    before_left : (t p : TableView) (us : List TableView) (n : ℕ) → StandsFor t p → Leads t us →
        list_all (first p) (excised_tables cut n us) ≡ true
    before_left t p [] n is_p leads = refl
    before_left t p (u ∷ us) n is_p leads =
        let m = n + length (parts_of cut u) in
        list_all-append (first p) (left_of cut n u) (excised_tables cut m us)
        ∙ (λ i. before_next t u p us (left_of cut n u) leads is_p (left_stands u n (view_of t u us leads)) i
        && before_left t p us m is_p (leads_on t u us leads) i)

    before_parts : (t p : TableView) (us : List TableView) (n : ℕ) → StandsFor t p → Leads t us →
        list_all (first p) (parts_from cut n us) ≡ true
    before_parts t p [] n is_p leads = refl
    before_parts t p (u ∷ us) n is_p leads =
        let m = n + length (parts_of cut u) in
        list_all-append (first p) (numbered_parts u n (parts_of cut u)) (parts_from cut m us)
        ∙ (λ i. before_next t u p us (numbered_parts u n (parts_of cut u)) leads is_p (parts_stand u n (view_of t u us leads)) i
        && before_parts t p us m is_p (leads_on t u us leads) i)

    each_before_left : (t : TableView) (ps us : List TableView) (n : ℕ) → AllByRecursion (StandsFor t) ps → Leads t us →
        list_all (λ p. list_all (first p) (excised_tables cut n us)) ps ≡ true
    each_before_left t [] us n are leads = refl
    each_before_left t (p ∷ ps) us n are leads = λ i. before_left t p us n are.0 leads i && each_before_left t ps us n are.1 leads i

    -- ---- the level

    -- its tables are in order and apart, and their views are in form
    pub record InOrder (ts : List TableView) : Type 0 where
      pub sorted : each_pair first ts ≡ true
      pub apart : each_pair (are_apart level) ts ≡ true
      pub views : list_all (λ (t : TableView). is_plain_view t.view) ts ≡ true

    in_order_on : (t : TableView) (ts : List TableView) → InOrder (t ∷ ts) → InOrder ts
    in_order_on t ts is = record {
      sorted = right (list_all (first t) ts) (each_pair first ts) is.sorted;
      apart = right (list_all (are_apart level t) ts) (each_pair (are_apart level) ts) is.apart;
      views = right (is_plain_view t.view) (list_all (λ (u : TableView). is_plain_view u.view) ts) is.views;
    }

    in_order_leads : (t : TableView) (ts : List TableView) → InOrder (t ∷ ts) → Leads t ts
    in_order_leads t ts is = record {
      before = left (list_all (first t) ts) (each_pair first ts) is.sorted;
      apart = left (list_all (are_apart level t) ts) (each_pair (are_apart level) ts) is.apart;
      views = right (is_plain_view t.view) (list_all (λ (u : TableView). is_plain_view u.view) ts) is.views;
    }

    abbrev uncut : List TableView → List TableView
    uncut ts = filter (λ t. not (is_cut cut t)) ts

    pub placed_whole : (n : ℕ) (ts : List TableView) → InOrder ts → all_placed first (parts_from cut n ts) (uncut ts)
        ≡ excised_tables cut n ts
    placed_whole n [] is = refl
    placed_whole n (t ∷ ts) is =
        let view = left (is_plain_view t.view) (list_all (λ (u : TableView). is_plain_view u.view) ts) is.views in
        let leads = in_order_leads t ts is in
        let rest = remains t.view.bounds cut in
        elim (overlap t.view.bounds cut) as (λ b.
        all_placed first (numbered_parts t n (cond b rest []) ++ parts_from cut (n + length (cond b rest [])) ts)
        (cond (not b) (t ∷ uncut ts) (uncut ts))
        ≡ cond b (numbered_parts t n rest) (t ∷ []) ++ excised_tables cut (n + length (cond b rest [])) ts) [
          | true ↦
              all_placed_append first (numbered_parts t n rest) (parts_from cut (n + length rest) ts) (uncut ts)
              ∙ ap (all_placed first (numbered_parts t n rest)) (placed_whole (n + length rest) ts (in_order_on t ts is))
              ∙ in_front first (numbered_parts t n rest) (excised_tables cut (n + length rest) ts) (left_before_right t n)
              (each_before_left t (numbered_parts t n rest) ts (n + length rest) (remains_stand t n view) leads)
          | false ↦
              behind first t (parts_from cut (n + 0) ts) (uncut ts)
              (weaker (first t) (λ p. not (first p t)) (λ p e. ap not (before_one_way level t p e)) (parts_from cut (n + 0) ts)
              (before_parts t t ts (n + 0) (stands_itself t view) leads))
              ∙ ap (λ us. t ∷ us) (placed_whole (n + 0) ts (in_order_on t ts is))
        ]
