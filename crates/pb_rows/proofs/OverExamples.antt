-- Layers put over one another, and the layers of commands, computed on worked examples.
use Rattle.std.proofs.Common.{◌≡◌, ℕ, List, [], ◌∷◌, refl, ap, Some, None}
use Rattle.std.specs.Prelude.{map}
use Rattle.std.specs.FinMap.{entries, from_sorted, entries-from_sorted}
use Rattle.pb_keys.specs.Key.{key_cmp}
use Rattle.pb_keys.specs.Map.{Map}
use Rattle.pb_keys.specs.Span.{span_of, holds_key, overlap}
use Rattle.pb_keys.specs.View.{KeyView}
use Rattle.pb_rows.specs.Changing.Changing.{Set, Del, DelRange, Excise, Ingest, IngestExcise, External, Receive}
use Rattle.pb_rows.specs.ChangingLayers.{row_of, row_of_pair, layer_of_changing, layer_of_changes, live_pairs}
use Rattle.pb_rows.specs.Layer.{layer_of}
use Rattle.pb_rows.specs.Over.{over, over_all}
use Rattle.pb_rows.specs.Viewed.{viewed}

-- the keys a, b, c, d and b@1
abbrev a : List ℕ
a = 97 ∷ []

abbrev b : List ℕ
b = 98 ∷ []

abbrev c : List ℕ
c = 99 ∷ []

abbrev d : List ℕ
d = 100 ∷ []

abbrev b_at_1 : List ℕ
b_at_1 = 98 ∷ 64 ∷ 49 ∷ []

-- ---- over_all

pub over_all-none : over_all [] ≡ layer_of [] []
over_all-none = refl

-- the newest has b, the next deletes from a to c, the oldest has a, b, b@1 and c
pub over_all-three : over_all (layer_of [] (row_of b (Some (1 ∷ [])) ∷ []) ∷ layer_of (span_of a c ∷ []) [] ∷ layer_of [] (row_of a (Some (2 ∷ [])) ∷ row_of b (Some (3 ∷ [])) ∷ row_of b_at_1 (Some (4 ∷ [])) ∷ row_of c None ∷ []) ∷ []) ≡ layer_of (span_of a c ∷ []) (row_of b (Some (1 ∷ [])) ∷ row_of c None ∷ [])
unfolding over holds_key key_cmp
over_all-three = refl

-- deletions that touch become one, and an older one doesn't hide a newer row
pub over_all-touching : over_all (layer_of (span_of b c ∷ []) (row_of a None ∷ []) ∷ layer_of (span_of a b ∷ []) (row_of c (Some []) ∷ []) ∷ []) ≡ layer_of (span_of a c ∷ []) (row_of a None ∷ row_of c (Some []) ∷ [])
unfolding over holds_key key_cmp
over_all-touching = refl

-- ---- the layer of each command

pub changing-set : layer_of_changing (Set a (1 ∷ [])) ≡ layer_of [] (row_of a (Some (1 ∷ [])) ∷ [])
changing-set = refl

pub changing-del : layer_of_changing (Del a) ≡ layer_of [] (row_of a None ∷ [])
changing-del = refl

pub changing-del_range : layer_of_changing (DelRange (span_of a c)) ≡ layer_of (span_of a c ∷ []) []
changing-del_range = refl

pub changing-excise : layer_of_changing (Excise (span_of a c)) ≡ layer_of (span_of a c ∷ []) []
changing-excise = refl

-- the last layer is the newest
pub changing-ingest : layer_of_changing (Ingest (layer_of [] (row_of a (Some (1 ∷ [])) ∷ row_of b (Some (2 ∷ [])) ∷ []) ∷ layer_of [] (row_of b (Some (3 ∷ [])) ∷ []) ∷ [])) ≡ layer_of [] (row_of a (Some (1 ∷ [])) ∷ row_of b (Some (3 ∷ [])) ∷ [])
unfolding over holds_key key_cmp
changing-ingest = refl

-- the layers lie over the span's deletion
pub changing-ingest_excise : layer_of_changing (IngestExcise (span_of a c) (layer_of [] (row_of b (Some (1 ∷ [])) ∷ []) ∷ [])) ≡ layer_of (span_of a c ∷ []) (row_of b (Some (1 ∷ [])) ∷ [])
unfolding over holds_key key_cmp
changing-ingest_excise = refl

-- through the prefix x, the suffix @7 and the bounds xa to xc
abbrev behind_x : KeyView
behind_x = record { bounds = span_of (120 ∷ a) (120 ∷ c); prefix = 120 ∷ []; suffix = 64 ∷ 55 ∷ [] }

pub changing-external : layer_of_changing (External behind_x (layer_of (span_of b d ∷ []) (row_of a (Some (1 ∷ [])) ∷ row_of b_at_1 (Some (2 ∷ [])) ∷ row_of c None ∷ []))) ≡ layer_of (span_of (120 ∷ b) (120 ∷ c) ∷ []) (row_of (120 ∷ 97 ∷ 64 ∷ 55 ∷ []) (Some (1 ∷ [])) ∷ row_of (120 ∷ 98 ∷ 64 ∷ 55 ∷ []) (Some (2 ∷ [])) ∷ [])
unfolding viewed holds_key overlap
changing-external = refl

abbrev sub : Map
sub = from_sorted ((b, 1 ∷ []) ∷ (c, 2 ∷ []) ∷ [])

pub entries-sub : entries sub ≡ (b, 1 ∷ []) ∷ (c, 2 ∷ []) ∷ []
unfolding key_cmp
entries-sub = entries-from_sorted key_cmp ((b, 1 ∷ []) ∷ (c, 2 ∷ []) ∷ []) tt

pub changing-receive : layer_of_changing (Receive (span_of a d) sub) ≡ layer_of (span_of a d ∷ []) (row_of b (Some (1 ∷ [])) ∷ row_of c (Some (2 ∷ [])) ∷ [])
changing-receive = ap (λ pairs. layer_of (span_of a d ∷ []) (map row_of_pair pairs)) entries-sub

-- ---- several commands, the last the newest

pub changes-none : layer_of_changes [] ≡ layer_of [] []
changes-none = refl

pub changes-five : layer_of_changes (Set a (1 ∷ []) ∷ Set d (2 ∷ []) ∷ DelRange (span_of a c) ∷ Set b (3 ∷ []) ∷ Del d ∷ []) ≡ layer_of (span_of a c ∷ []) (row_of b (Some (3 ∷ [])) ∷ row_of d None ∷ [])
unfolding over holds_key key_cmp
changes-five = refl

-- ---- the pairs of the rows with a value

pub live_pairs-some : live_pairs (layer_of (span_of a d ∷ []) (row_of a (Some (1 ∷ [])) ∷ row_of b None ∷ row_of b_at_1 (Some []) ∷ [])) ≡ (a, 1 ∷ []) ∷ (b_at_1, []) ∷ []
live_pairs-some = refl
