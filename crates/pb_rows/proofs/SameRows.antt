-- Rising rows, by what they say.
use Rattle.std.proofs.Common.{◌≡◌, ℕ, List, [], ◌∷◌, true, false, cond, refl, sym, ap, ◌∙◌, subst}
use Rattle.std.specs.Prelude.{Some, None}
use Rattle.std.proofs.lemmas.List.Elements.{All-cons, All-head, All-tail}
use Rattle.std.proofs.lemmas.Option.{same_Some}
use Rattle.std.specs.declared.cmp.Ordering.TheVariants.{Less, Equal, Greater}
use Rattle.std.specs.Ordering.{eq_by_cmp, is_eq}
use Rattle.pb_keys.specs.Key.{key_cmp}
use Rattle.pb_keys.specs.KeyLaws.{key_cmp_exact}
use Rattle.pb_rows.specs.Layer.{KeyRow, Rise}
use Rattle.pb_rows.specs.ChangingLayers.{row_of}
use Rattle.pb_rows.specs.Verdict.{row_verdict}
use Rattle.pb_rows.proofs.RowLaws.{same_key, ties_itself}
use Rattle.pb_rows.proofs.RowsOver.{Follow, Rising, rising_from_rise, chained, turned_greater}

-- rows above a key say nothing of it
pub none_below : (rows : List KeyRow) (key : List ℕ) → Follow key rows → row_verdict rows key ≡ None
none_below [] key follow = refl
none_below (row ∷ rows) key follow =
    ap (λ o. cond (is_eq o) (Some row.value) (row_verdict rows key)) (All-head (λ r. key_cmp key r.key ≡ Less) row rows follow)
    ∙ none_below rows key (All-tail (λ r. key_cmp key r.key ≡ Less) row rows follow)

first_says : (row : KeyRow) (rows : List KeyRow) → row_verdict (row ∷ rows) row.key ≡ Some row.value
first_says row rows = ap (λ b. cond b (Some row.value) (row_verdict rows row.key)) (ties_itself row.key)

-- the first row of a list that says the same is not above this one
none_before : (r s : KeyRow) (rs ss : List KeyRow) → Follow s.key ss → ((key : List ℕ) → row_verdict (r ∷ rs) key ≡ row_verdict (s ∷ ss) key) → key_cmp r.key s.key ≡ Less → ⊥
none_before r s rs ss follow alike less =
    let some : row_verdict (r ∷ rs) r.key ≡ Some r.value = first_says r rs in
    let none : row_verdict (s ∷ ss) r.key ≡ None =
    none_below (s ∷ ss) r.key (All-cons (λ row. key_cmp r.key row.key ≡ Less) s ss less (chained r.key s.key ss less follow)) in
    let same : row_verdict (r ∷ rs) r.key ≡ row_verdict (s ∷ ss) r.key = alike r.key in
    cc

rest_alike : (r s : KeyRow) (rs ss : List KeyRow) → r ≡ s → Follow r.key rs → Follow s.key ss → ((key : List ℕ) → row_verdict (r ∷ rs) key ≡ row_verdict (s ∷ ss) key) → (key : List ℕ) → row_verdict rs key ≡ row_verdict ss key
rest_alike r s rs ss same after_r after_s alike key =
    elim (eq_by_cmp key_cmp key r.key) as (λ b. eq_by_cmp key_cmp key r.key ≡ b → row_verdict rs key ≡ row_verdict ss key) [
      | true ↦ λ e.
          let here : key ≡ r.key = same_key key r.key e in
          none_below rs key (subst (λ k. Follow k rs) (sym here) after_r) ∙ sym (none_below ss key (subst (λ k. Follow k ss) (sym (here ∙ ap (λ (row : KeyRow). row.key) same)) after_s))
      | false ↦ λ e.
          ap (λ b. cond b (Some r.value) (row_verdict rs key)) (sym e) ∙ alike key
          ∙ ap (λ b. cond b (Some s.value) (row_verdict ss key)) (ap (λ (row : KeyRow). eq_by_cmp key_cmp key row.key) (sym same) ∙ e)
    ] refl

same_rising : (rs ss : List KeyRow) → Rising rs → Rising ss → ((key : List ℕ) → row_verdict rs key ≡ row_verdict ss key) → rs ≡ ss
same_rising [] [] up_r up_s alike = refl
same_rising [] (s ∷ ss) up_r up_s alike =
    let some : row_verdict (s ∷ ss) s.key ≡ Some s.value = first_says s ss in
    let same : None ≡ row_verdict (s ∷ ss) s.key = alike s.key in
    cc
same_rising (r ∷ rs) [] up_r up_s alike =
    let some : row_verdict (r ∷ rs) r.key ≡ Some r.value = first_says r rs in
    let same : row_verdict (r ∷ rs) r.key ≡ None = alike r.key in
    cc
same_rising (r ∷ rs) (s ∷ ss) up_r up_s alike =
    elim (key_cmp r.key s.key) as (λ o. key_cmp r.key s.key ≡ o → r ∷ rs ≡ s ∷ ss) [
      | Less ↦ λ e. absurd (none_before r s rs ss up_s.0 alike e)
      | Greater ↦ λ e. absurd (none_before s r ss rs up_r.0 (λ key. sym (alike key)) (turned_greater r.key s.key e))
      | Equal ↦ λ e.
          let key : r.key ≡ s.key = key_cmp_exact r.key s.key e in
          let value : r.value ≡ s.value = same_Some r.value s.value (sym (first_says r rs) ∙ alike r.key ∙ ap (row_verdict (s ∷ ss)) key ∙ first_says s ss) in
          let same : r ≡ s = (λ i. row_of (key i) (value i)) in
          (λ i. same i ∷ same_rising rs ss up_r.1 up_s.1 (rest_alike r s rs ss same up_r.0 up_s.0 alike) i)
    ] refl

-- rising rows that say the same are the same
pub same_rows_by_verdict : (rs ss : List KeyRow) → Rise rs → Rise ss → ((key : List ℕ) → row_verdict rs key ≡ row_verdict ss key) → rs ≡ ss
same_rows_by_verdict rs ss up_r up_s alike = same_rising rs ss (rising_from_rise rs up_r) (rising_from_rise ss up_s) alike
