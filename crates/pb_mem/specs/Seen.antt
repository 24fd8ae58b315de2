-- What reads give of a file is one of its images.
use Rattle.std.specs.Prelude.{◌≡◌, ℕ, ◌+◌, ◌<◌, ◌≤◌, ◌⊎◌, min, List, [], ◌∷◌, length, take, Option, Some, None, refl}
use Rattle.std.specs.FinMap.{get}
use Rattle.std.proofs.Common.{inl, inr, get_or, sym, subst, ◌∙◌}
use Rattle.std.proofs.Math.Nat.{le_refl, min-le_left, min-le_right, lt_of_lt_of_le}
use Rattle.std.proofs.lemmas.List.{length-take, get_or-take}
use Rattle.std.proofs.lemmas.Bool.{cases_lt}
use Rattle.pb_devices.specs.Contents.{IsTorn, MayLeave}
use Rattle.pb_devices.proofs.Over.{length-put_over, put_over-outside}
use Rattle.pb_mem.specs.Files.{Saved, FileView, put_back, before_writes, durable_bytes, Covers, IsPending}
use Rattle.pb_mem.specs.Slots.{Slots, file_of, seen_of, IsImageOf, contents_in}

pub length-put_back : (s : Saved) (bs : List ℕ) → length (put_back s bs) ≡ length bs
length-put_back s bs = length-put_over bs s.at s.bytes

-- outside of what is put back, the bytes stay
pub put_back-outside : (s : Saved) (bs : List ℕ) (k : ℕ) → k < length bs → (k < s.at) ⊎ (s.at + length s.bytes ≤ k) → get_or (put_back s bs) k 0 ≡ get_or bs k 0
put_back-outside s bs k below apart = put_over-outside bs s.at s.bytes k below apart

-- k is outside of a range, or within
pub side : (k at n : ℕ) → ((k < at) ⊎ (at + n ≤ k)) ⊎ ((at ≤ k) × (k < at + n))
side k at n = elim (cases_lt k at) [ inl front ↦ inl (inl front) | inr from ↦ elim (cases_lt k (at + n)) [ inl to ↦ inr (from, to) | inr behind ↦ inl (inr behind) ] ]

pub torn_before : (saved : List Saved) (base : List ℕ) → (length (before_writes saved base) ≡ length base) × ((at : ℕ) → at < length base → (Covers saved at → ⊥) → get_or (before_writes saved base) at 0 ≡ get_or base at 0)
torn_before [] base = (refl, λ at below none. refl)
torn_before (one ∷ saved) base =
    let rest = torn_before saved base in (
      length-put_back one (before_writes saved base) ∙ rest.0,
      λ at below none. elim (side at one.at (length one.bytes)) [
        | inl outside ↦ put_back-outside one (before_writes saved base) at (subst (λ (n : ℕ). at < n) (sym rest.0) below) outside ∙ rest.1 at below (λ covers. none (inr covers))
        | inr here ↦ absurd (none (inl here))
      ],
    )

pub length-durable : (file : FileView) → length (durable_bytes file) ≡ min file.durable_len (length file.seen)
length-durable file = (torn_before file.saved (take file.durable_len file.seen)).0 ∙ length-take file.durable_len file.seen

-- durable bytes that aren't pending are those that reads give
pub durable-kept : (file : FileView) (at : ℕ) → at < length (durable_bytes file) → (IsPending file at → ⊥) → get_or file.seen at 0 ≡ get_or (durable_bytes file) at 0
durable-kept file at below none =
    let torn = torn_before file.saved (take file.durable_len file.seen) in
    let reach : at < file.durable_len =
    lt_of_lt_of_le (subst (λ (n : ℕ). at < n) (length-durable file) below) (min-le_left file.durable_len (length file.seen)) in
    sym
    (torn.1 at (subst (λ (n : ℕ). at < n) torn.0 below) (λ covers. none (inr covers)) ∙ get_or-take file.durable_len file.seen at 0 reach)

-- what reads give of a file is an image of it
pub seen-torn : (file : FileView) → IsTorn (durable_bytes file) (IsPending file) file.seen file.seen
seen-torn file = record {
  kept = durable-kept file;
  no_shorter = subst (λ (n : ℕ). n ≤ length file.seen) (sym (length-durable file)) (min-le_right file.durable_len (length file.seen));
  no_longer = le_refl (length file.seen);
}

-- what reads give of a name is an image of what stands there
seen_part : (file : Option FileView) → IsImageOf file (seen_of file)
seen_part None = refl
seen_part (Some file) = seen-torn file

pub seen_left : (slots : Slots) (name : List ℕ) → MayLeave (contents_in slots) name ((contents_in slots).seen name)
seen_left slots name = inr (seen_part (file_of (get slots name)))
