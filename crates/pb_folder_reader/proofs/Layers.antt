-- Tables that are read one by one, and the layers by number that they are.
use Rattle.std.proofs.Common.{◌≡◌, ℕ, Bool, true, false, cond, List, [], ◌∷◌, map, Option, Some, None, refl, sym, ap, ◌∙◌, subst}
use Rattle.std.specs.Prelude.{IsSomeAnd, ◌==◌, if◌then◌else◌}
use Rattle.std.specs.List.{All}
use Rattle.std.proofs.lemmas.Bool.{eqb-true, eq-eqb}
use Rattle.std.proofs.lemmas.List.Elements.{All-nil, All-cons, All-head, All-tail, All-append}
use Rattle.pb_edit.specs.Edit.{CreatedItem}
use Rattle.pb_folder.specs.Held.{IsMapped, IsTableOf}
use Rattle.pb_rows.specs.Layer.{KeyLayer, layer_of}
use Rattle.pb_rows.specs.Viewed.{MapsWithin, viewed}
use Rattle.pb_table.proofs.TableLemmas.{one_layer}
use Rattle.pb_version.specs.Version.{TableView, VersionView, all_tables}
use Rattle.pb_version.specs.Meaning.{layer_of_table}
use Rattle.pb_version.specs.Stored.{backing_of, stored_in}
use Rattle.pb_folder.proofs.Lists as part
use Rattle.pb_folder_reader.specs.Tables.{AllShow, HasSome, HasTable, IsBehind, Places, Shows, ShowsAll}

-- ---- one number

one_spelled : (file : Option (List ℕ)) (size other : ℕ) (a b : KeyLayer) → IsSomeAnd file (IsTableOf size a) → IsSomeAnd file (IsTableOf other b) → a ≡ b
one_spelled None size other a b is too = absurd is
one_spelled (Some bytes) size other a b is too = one_layer bytes a b is.spelled too.spelled

pub one_behind : (places : Places) (number size other : ℕ) (a b : KeyLayer) → IsBehind places number size a → IsBehind places number other b → a ≡ b
one_behind places number size other a b is too = one_spelled (places number) size other a b is too

-- ---- a function that has the layer of each

with_layer : ℕ → KeyLayer → (ℕ → KeyLayer) → ℕ → KeyLayer
with_layer number layer layers n = if n == number then layer else layers n

module _ (places : Places) where
  first_has : (item : CreatedItem) (layer : KeyLayer) (layers : ℕ → KeyLayer) → IsBehind places item.number item.size layer → HasTable places (with_layer item.number layer layers) item
  unfolding with_layer
  first_has item layer layers is =
      subst (λ (b : Bool). IsBehind places item.number item.size (cond b layer (layers item.number))) (sym (eq-eqb item.number item.number refl)) is

  other_has : (item other : CreatedItem) (layer : KeyLayer) (layers : ℕ → KeyLayer) → IsBehind places item.number item.size layer → HasTable places layers other
      → HasTable places (with_layer item.number layer layers) other
  unfolding with_layer
  other_has item other layer layers is has =
      elim (other.number == item.number) as (λ b. (other.number == item.number) ≡ b → IsBehind places other.number other.size (cond b layer (layers other.number))) [
        | true ↦ λ same.
            let there = subst (λ n. IsBehind places n item.size layer) (sym (eqb-true other.number item.number same)) is in
            subst (IsBehind places other.number other.size) (one_behind places other.number other.size item.size (layers other.number) layer has there) has
        | false ↦ λ same. has
      ] refl

  record Chosen (items : List CreatedItem) : Type 0 where
    layers : ℕ → KeyLayer
    has : All (HasTable places layers) items

  choose : (items : List CreatedItem) → All (HasSome places) items → Chosen items
  choose [] all = record { layers = λ n. layer_of [] []; has = All-nil _ }
  choose (item ∷ items) all =
      let own = All-head (HasSome places) item items all in
      let rest = choose items (All-tail (HasSome places) item items all) in
      let layers = with_layer item.number own.0 rest.layers in
      record {
        layers = layers;
        has =
            All-cons (HasTable places layers) item items (first_has item own.0 rest.layers own.1)
            (λ k d within. other_has item _ own.0 rest.layers own.1 (rest.has k d within));
      }

  -- ---- tables

  all_have : (tables : List TableView) (shown : List KeyLayer) → AllShow places tables shown → All (HasSome places) (map backing_of tables)
  all_have [] [] all = All-nil (HasSome places)
  all_have [] (s ∷ ss) all = absurd all
  all_have (t ∷ ts) [] all = absurd all
  all_have (t ∷ ts) (s ∷ ss) all = All-cons (HasSome places) (backing_of t) (map backing_of ts) (all.0.layer, all.0.behind) (all_have ts ss all.1)

  module _ (layers : ℕ → KeyLayer) where
    shown_is : (t : TableView) (s : KeyLayer) → HasTable places layers (backing_of t) → Shows places t s → (s ≡ layer_of_table layers t) × IsMapped layers t
    shown_is t s has shows =
        let same = one_behind places t.backing t.size t.size shows.layer (layers t.backing) shows.behind has in
        (shows.is ∙ ap (viewed t.view) same, subst (MapsWithin t.view) same shows.mapped)

    shown_are : (tables : List TableView) (shown : List KeyLayer) → All (HasTable places layers) (map backing_of tables) → AllShow places tables shown
        → (shown ≡ map (layer_of_table layers) tables) × All (IsMapped layers) tables
    shown_are [] [] has all = (refl, All-nil (IsMapped layers))
    shown_are [] (s ∷ ss) has all = absurd all
    shown_are (t ∷ ts) [] has all = absurd all
    shown_are (t ∷ ts) (s ∷ ss) has all =
        let first = shown_is t s (All-head (HasTable places layers) (backing_of t) (map backing_of ts) has) all.0 in
        let rest = shown_are ts ss (All-tail (HasTable places layers) (backing_of t) (map backing_of ts) has) all.1 in
        (λ i. first.0 i ∷ rest.0 i, All-cons (IsMapped layers) t ts first.1 rest.1)

  pub shows_all : (version : VersionView) (shown : List KeyLayer) → AllShow places (all_tables version) shown → All (HasSome places) version.backings
      → ShowsAll places version shown
  shows_all version shown all backings =
      let some = All-append (HasSome places) (map backing_of (all_tables version)) version.backings (all_have (all_tables version) shown all) backings in
      let chosen = choose (stored_in version) some in
      let are = shown_are chosen.layers (all_tables version) shown (part.All-front (HasTable places chosen.layers) (map backing_of (all_tables version)) version.backings chosen.has) all in
      record { layers = chosen.layers; stored = chosen.has; mapped = are.1; is = are.0 }

-- ---- a view that keeps no limits

pub no_shown : (places : Places) (table one : TableView) (read layer : KeyLayer) → one ≡ table → IsBehind places one.backing one.size read
    → (MapsWithin one.view read → ⊥) → IsBehind places table.backing table.size layer → MapsWithin table.view layer → ⊥
no_shown places table one read layer same is none behind mapped =
    let behind_one = subst (λ (t : TableView). IsBehind places t.backing t.size layer) (sym same) behind in
    let mapped_one = subst (λ (t : TableView). MapsWithin t.view layer) (sym same) mapped in
    none (subst (MapsWithin one.view) (one_behind places one.backing one.size one.size layer read behind_one is) mapped_one)
