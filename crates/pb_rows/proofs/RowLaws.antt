-- What lists of rows say of a key.
use Rattle.std.proofs.Common.{◌≡◌, ℕ, List, [], ◌∷◌, Bool, true, false, cond, refl, sym, ap, ◌∙◌, subst}
use Rattle.std.specs.Prelude.{Some, None, filter}
use Rattle.std.specs.Option.{option_or}
use Rattle.std.specs.declared.cmp.Ordering.TheVariants.{Less, Equal, Greater}
use Rattle.std.specs.FinMap.Entries.{by_order}
use Rattle.std.specs.Ordering.{eq_by_cmp, is_eq}
use Rattle.std.specs.Cmp.{Equal-is, tied_itself}
use Rattle.pb_keys.specs.Key.{key_cmp}
use Rattle.pb_keys.specs.KeyLaws.{key_cmp_total, key_cmp_exact}
use Rattle.pb_rows.specs.Layer.{KeyRow}
use Rattle.pb_rows.specs.Over.{with_row, rows_over}
use Rattle.pb_rows.specs.Verdict.{row_verdict}

pub same_key : (a b : List ℕ) → eq_by_cmp key_cmp a b ≡ true → a ≡ b
same_key a b e = key_cmp_exact a b ((Equal-is (key_cmp a b)).0 e)

pub ties_itself : (a : List ℕ) → eq_by_cmp key_cmp a a ≡ true
ties_itself a = ap is_eq (tied_itself key_cmp_total a)

shadowed : {A : Type 0} (b : Bool) (x y z : A) → cond b x z ≡ cond b x (cond b y z)
shadowed true x y z = refl
shadowed false x y z = refl

swapped : {A : Type 0} (a b : Bool) (x y z : A) → (a ≡ true → b ≡ true → ⊥) → cond a x (cond b y z) ≡ cond b y (cond a x z)
swapped true true x y z apart = absurd (apart refl refl)
swapped true false x y z apart = refl
swapped false b x y z apart = refl

pub row_verdict-with_row : (row : KeyRow) (rows : List KeyRow) (key : List ℕ) → row_verdict (with_row row rows) key ≡ cond (eq_by_cmp key_cmp key row.key) (Some row.value) (row_verdict rows key)
row_verdict-with_row row [] key = refl
row_verdict-with_row row (s ∷ ss) key =
    elim (key_cmp row.key s.key) as (λ o. key_cmp row.key s.key ≡ o → row_verdict (by_order o (row ∷ s ∷ ss) (row ∷ ss) (s ∷ with_row row ss)) key ≡ cond (eq_by_cmp key_cmp key row.key) (Some row.value) (cond (eq_by_cmp key_cmp key s.key) (Some s.value) (row_verdict ss key))) [
      | Less ↦ λ e. refl
      | Equal ↦ λ e. shadowed (eq_by_cmp key_cmp key row.key) (Some row.value) (Some s.value) (row_verdict ss key)
          ∙ ap (λ k. cond (eq_by_cmp key_cmp key row.key) (Some row.value) (cond (eq_by_cmp key_cmp key k) (Some s.value) (row_verdict ss key))) (key_cmp_exact row.key s.key e)
      | Greater ↦ λ e. ap (cond (eq_by_cmp key_cmp key s.key) (Some s.value)) (row_verdict-with_row row ss key)
          ∙ swapped (eq_by_cmp key_cmp key s.key) (eq_by_cmp key_cmp key row.key) (Some s.value) (Some row.value) (row_verdict ss key)
          (λ a b. let tied : key_cmp row.key s.key ≡ Equal = subst (λ k. key_cmp k s.key ≡ Equal) (same_key key row.key b) ((Equal-is (key_cmp key s.key)).0 a) in cc)
    ] refl

pub row_verdict-rows_over : (newer older : List KeyRow) (key : List ℕ) → row_verdict (rows_over newer older) key ≡ option_or (row_verdict newer key) (row_verdict older key)
row_verdict-rows_over [] older key = refl
row_verdict-rows_over (row ∷ newer) older key =
    row_verdict-with_row row (rows_over newer older) key
    ∙ elim (eq_by_cmp key_cmp key row.key) as (λ b. cond b (Some row.value) (row_verdict (rows_over newer older) key) ≡ option_or (cond b (Some row.value) (row_verdict newer key)) (row_verdict older key)) [
      | true ↦ refl
      | false ↦ row_verdict-rows_over newer older key
    ]

-- the rows whose keys pass a test
pub row_verdict-filter : (p : List ℕ → Bool) (rows : List KeyRow) (key : List ℕ) → row_verdict (filter (λ row. p row.key) rows) key ≡ cond (p key) (row_verdict rows key) None
row_verdict-filter p [] key = elim (p key) as (λ b. row_verdict [] key ≡ cond b (row_verdict [] key) None) [ true ↦ refl | false ↦ refl ]
row_verdict-filter p (row ∷ rows) key =
    elim (eq_by_cmp key_cmp key row.key) as (λ t. eq_by_cmp key_cmp key row.key ≡ t → row_verdict (cond (p row.key) (row ∷ filter (λ row. p row.key) rows) (filter (λ row. p row.key) rows)) key ≡ cond (p key) (cond t (Some row.value) (row_verdict rows key)) None) [
      | true ↦ λ t. ap (λ k. row_verdict (cond (p k) (row ∷ filter (λ row. p row.key) rows) (filter (λ row. p row.key) rows)) key) (sym (same_key key row.key t))
          ∙ elim (p key) as (λ b. row_verdict (filter (λ row. p row.key) rows) key ≡ cond b (row_verdict rows key) None → row_verdict (cond b (row ∷ filter (λ row. p row.key) rows) (filter (λ row. p row.key) rows)) key ≡ cond b (Some row.value) None) [
            | true ↦ λ _. ap (λ b. cond b (Some row.value) (row_verdict (filter (λ row. p row.key) rows) key)) t
            | false ↦ λ r. r
          ] (row_verdict-filter p rows key)
      | false ↦ λ t. elim (p row.key) as (λ b. row_verdict (cond b (row ∷ filter (λ row. p row.key) rows) (filter (λ row. p row.key) rows)) key ≡ row_verdict (filter (λ row. p row.key) rows) key) [
        | true ↦ ap (λ b. cond b (Some row.value) (row_verdict (filter (λ row. p row.key) rows) key)) t
        | false ↦ refl
      ] ∙ row_verdict-filter p rows key
    ] refl
