-- What views, hulls and touched spans are, computed for small layers; and what they are not.
use Rattle.std.proofs.Common.{◌≡◌, ◌≢◌, ℕ, List, [], ◌∷◌, true, false, refl, sym, ap, ◌<◌, get_or, arith, inr}
use Rattle.std.specs.Prelude.{Option, Some, None}
use Rattle.std.proofs.lemmas.List.Elements.{All-cons, All-nil}
use Rattle.pb_keys.specs.Key.{at_sign, suffix_of}
use Rattle.pb_keys.specs.Span.{KeySpan, span_of, holds_key, overlap}
use Rattle.pb_keys.specs.View.{KeyView, IsMapping}
use Rattle.pb_rows.specs.Hull.{hull_of}
use Rattle.pb_rows.specs.Layer.{KeyRow, IsFilled, layer_of}
use Rattle.pb_rows.specs.Touching.{touches}
use Rattle.pb_rows.specs.Verdict.{prefix_verdict}
use Rattle.pb_rows.specs.Viewed.{mapped_key, viewed, cut_to, MapsWithin}

-- a row that deletes its key
abbrev row : List ℕ → KeyRow
row key = record { key = key; value = None }

-- the row with one byte of value
abbrev row_with : ℕ → List ℕ → KeyRow
row_with value key = record { key = key; value = Some (value ∷ []) }

abbrev view_of : KeySpan → List ℕ → List ℕ → KeyView
view_of bounds prefix suffix = record { bounds = bounds; prefix = prefix; suffix = suffix }

apart : (m n : ℕ) → m < n → n ≡ m → ⊥
apart m n below e = absurd (omega arith)

-- ---- views

-- `a` and `b@3` through prefix `t/`, suffix `@7` and bounds `t/` to `t0` are `t/a@7` and `t/b@7`
suffixed : viewed (view_of (span_of (116 ∷ 47 ∷ []) (116 ∷ 48 ∷ [])) (116 ∷ 47 ∷ []) (64 ∷ 55 ∷ [])) (layer_of [] (row (97 ∷ []) ∷ row_with 1 (98 ∷ 64 ∷ 51 ∷ []) ∷ [])) ≡ layer_of [] (row (116 ∷ 47 ∷ 97 ∷ 64 ∷ 55 ∷ []) ∷ row_with 1 (116 ∷ 47 ∷ 98 ∷ 64 ∷ 55 ∷ []) ∷ [])
unfolding viewed holds_key
suffixed = refl

-- and not `t/b@3`
not_its_own : suffix_of (mapped_key (view_of (span_of (116 ∷ 47 ∷ []) (116 ∷ 48 ∷ [])) (116 ∷ 47 ∷ []) (64 ∷ 55 ∷ [])) (98 ∷ 64 ∷ 51 ∷ [])) ≢ (64 ∷ 51 ∷ [])
not_its_own e = apart 51 55 (omega arith) (ap (λ (suffix : List ℕ). get_or suffix 1 0) e)

-- `a`, `b@1` and the deletion `c` to `d` through prefix `p-` and bounds `p-a` to `p-z`
prefixed : viewed (view_of (span_of (112 ∷ 45 ∷ 97 ∷ []) (112 ∷ 45 ∷ 122 ∷ [])) (112 ∷ 45 ∷ []) []) (layer_of (span_of (99 ∷ []) (100 ∷ []) ∷ []) (row (97 ∷ []) ∷ row_with 1 (98 ∷ 64 ∷ 49 ∷ []) ∷ [])) ≡ layer_of (span_of (112 ∷ 45 ∷ 99 ∷ []) (112 ∷ 45 ∷ 100 ∷ []) ∷ []) (row (112 ∷ 45 ∷ 97 ∷ []) ∷ row_with 1 (112 ∷ 45 ∷ 98 ∷ 64 ∷ 49 ∷ []) ∷ [])
unfolding viewed holds_key overlap
prefixed = refl

-- bounds from `p-b` on leave out the first row
narrowed : viewed (view_of (span_of (112 ∷ 45 ∷ 98 ∷ []) (112 ∷ 45 ∷ 122 ∷ [])) (112 ∷ 45 ∷ []) []) (layer_of [] (row (97 ∷ []) ∷ row_with 1 (98 ∷ 64 ∷ 49 ∷ []) ∷ [])) ≡ layer_of [] (row_with 1 (112 ∷ 45 ∷ 98 ∷ 64 ∷ 49 ∷ []) ∷ [])
unfolding viewed holds_key
narrowed = refl

-- `a` to `d` cut to `b` to `c`; what only touches the bounds has no part
cut : cut_to (span_of (98 ∷ []) (99 ∷ [])) (span_of (97 ∷ []) (100 ∷ []) ∷ []) ≡ span_of (98 ∷ []) (99 ∷ []) ∷ []
unfolding overlap
cut = refl

cut_beside : cut_to (span_of (98 ∷ []) (99 ∷ [])) (span_of (99 ∷ []) (100 ∷ []) ∷ []) ≡ []
unfolding overlap
cut_beside = refl

-- `b@3` and `b@4` become one key
become_one : (bounds : KeySpan) → MapsWithin (view_of bounds [] (64 ∷ 55 ∷ [])) (layer_of [] (row (98 ∷ 64 ∷ 51 ∷ []) ∷ row (98 ∷ 64 ∷ 52 ∷ []) ∷ [])) → ⊥
become_one bounds within = within.apart 0 1 (row []) (omega arith) (omega arith) refl

-- the prefix `t/` and the suffix `@7` are a mapping, and the prefix `x@` and the suffix `7` are none
a_mapping : (bounds : KeySpan) → IsMapping (view_of bounds (116 ∷ 47 ∷ []) (64 ∷ 55 ∷ []))
a_mapping bounds = record {
  prefix = record {
    within = omega arith;
    plain = All-cons (λ b. b ≢ at_sign) 116 (47 ∷ []) (λ e. absurd (omega arith)) (All-cons (λ b. b ≢ at_sign) 47 [] (λ e. absurd (omega arith)) (All-nil (λ b. b ≢ at_sign)));
  };
  suffix = inr (omega arith, refl);
}

no_mapping : (bounds : KeySpan) → IsMapping (view_of bounds (120 ∷ 64 ∷ []) []) → ⊥
no_mapping bounds is = is.prefix.plain 1 0 (omega arith) refl

-- the first row of a prefix says what is said of it
first_says : prefix_verdict (row_with 1 (98 ∷ 64 ∷ 51 ∷ []) ∷ row (98 ∷ 64 ∷ 52 ∷ []) ∷ []) (98 ∷ []) ≡ Some (Some (1 ∷ []))
first_says = refl

no_such_prefix : prefix_verdict (row_with 1 (98 ∷ 64 ∷ 51 ∷ []) ∷ row (98 ∷ 64 ∷ 52 ∷ []) ∷ []) (98 ∷ 64 ∷ 51 ∷ []) ≡ None
no_such_prefix = refl

-- ---- hulls

-- that of the row `a` ends at `a` and a zero byte, and not at `a` and a one
hull_of_a : hull_of (layer_of [] (row (97 ∷ []) ∷ [])) ≡ Some (span_of (97 ∷ []) (97 ∷ 0 ∷ []))
unfolding hull_of
hull_of_a = refl

-- the second byte of the end
last_byte : Option KeySpan → ℕ
last_byte None = 0
last_byte (Some span) = get_or span.hi 1 0

not_a_one : hull_of (layer_of [] (row (97 ∷ []) ∷ [])) ≢ Some (span_of (97 ∷ []) (97 ∷ 1 ∷ []))
unfolding hull_of last_byte
not_a_one e = apart 0 1 (omega arith) (sym (ap last_byte e))

-- from the start of a deletion to the end above a row
of_both : hull_of (layer_of (span_of (98 ∷ []) (99 ∷ []) ∷ []) (row (99 ∷ 122 ∷ 64 ∷ 50 ∷ []) ∷ [])) ≡ Some (span_of (98 ∷ []) (99 ∷ 122 ∷ 0 ∷ []))
unfolding hull_of
of_both = refl

-- a deletion alone fills a layer
deletion_fills : IsFilled (layer_of (span_of (98 ∷ []) (99 ∷ []) ∷ []) [])
deletion_fills = omega arith

nothing_fills_none : IsFilled (layer_of [] []) → ⊥
nothing_fills_none filled = absurd (omega arith)

-- ---- touched spans

-- the row `b@9` lies in `b` to `c`, and not in `c` to `d`
row_touches : touches (layer_of [] (row (98 ∷ 64 ∷ 57 ∷ []) ∷ [])) (span_of (98 ∷ []) (99 ∷ [])) ≡ true
unfolding holds_key
row_touches = refl

row_beside : touches (layer_of [] (row (98 ∷ 64 ∷ 57 ∷ []) ∷ [])) (span_of (99 ∷ []) (100 ∷ [])) ≡ false
unfolding holds_key
row_beside = refl

-- a deletion of `b` to `d` touches `c` to `e`, and not `d` to `e`
deletion_touches : touches (layer_of (span_of (98 ∷ []) (100 ∷ []) ∷ []) []) (span_of (99 ∷ []) (101 ∷ [])) ≡ true
unfolding overlap
deletion_touches = refl

deletion_beside : touches (layer_of (span_of (98 ∷ []) (100 ∷ []) ∷ []) []) (span_of (100 ∷ []) (101 ∷ [])) ≡ false
unfolding overlap
deletion_beside = refl
