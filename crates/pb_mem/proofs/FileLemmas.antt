-- What the writes of a file leave of its durable bytes, and which images a power cut may leave.
use Rattle.std.proofs.Common.{◌≡◌, ℕ, zero, suc, ◌+◌, ◌-◌, ◌<◌, ◌≤◌, ◌⊎◌, inl, inr, min, max, List, [], ◌∷◌, ◌++◌, length, take, drop, get_or, refl, sym, ap, subst, ◌∙◌, if◌then◌else◌, ◌==◌, Bool, true, false, arith, length-append, length-drop}
use Rattle.std.proofs.lemmas.Bool.{cases_lt}
use Rattle.std.proofs.lemmas.Bool.Decides.{nat_tests}
use Rattle.std.proofs.Math.Seq.{take-length}
use Rattle.std.proofs.lemmas.List.{take_more, length-take, get_or-take, get_or-drop}
use Rattle.std.proofs.lemmas.Grind.{same_number_lists, common_steps}
use Rattle.pb_devices.specs.Contents.{IsTorn}
use Rattle.pb_devices.specs.DiskCalls.{over}
use Rattle.pb_devices.proofs.Over.{length-over}
use Rattle.pb_mem.specs.Seen.{length-put_back, put_back-outside, side, length-durable, durable-kept, seen-torn}
use Rattle.pb_mem.specs.Files.{Saved, FileView, put_back, before_writes, durable_bytes, Covers, IsPending, with_saved, replaced, touched, written, synced, pattern, pattern_len, IsPatterned, IsPicked, IsFilled, IsPatternedOver, pattern_byte}

-- within, those that are put back stand
put_back-inside : (s : Saved) (bs : List ℕ) (k : ℕ) → k < length bs → s.at ≤ k → k < s.at + length s.bytes → get_or (put_back s bs) k 0 ≡ get_or s.bytes (k - s.at) 0
put_back-inside s bs k below from to = grind (arith, common_steps)

pub over-outside : (before : List ℕ) (at : ℕ) (bytes : List ℕ) (k : ℕ) → at ≤ length before → k < length before → (k < at) ⊎ (at + length bytes ≤ k) → get_or (over before at bytes) k 0 ≡ get_or before k 0
over-outside before at bytes k within below (inl front) = grind (arith, common_steps)
over-outside before at bytes k within below (inr behind) = grind (arith, common_steps)

before_writes-push : (saved : List Saved) (one : Saved) (base : List ℕ) → before_writes (saved ++ one ∷ []) base ≡ before_writes saved (put_back one base)
before_writes-push [] one base = refl
before_writes-push (first ∷ saved) one base = ap (put_back first) (before_writes-push saved one base)

put_back-none : (s : Saved) (base : List ℕ) → length s.bytes ≡ 0 → put_back s base ≡ base
put_back-none s base none =
    same_number_lists (put_back s base) base (length-put_back s base)
    (λ k h. let below : k < length base = omega (arith, h, length-put_back s base) in
    elim (side k s.at (length s.bytes)) [
      | inl outside ↦ put_back-outside s base k below outside
      | inr within ↦ absurd (omega arith)
    ])

saved_or : (b : Bool) (saved : List Saved) (one : Saved) (base : List ℕ) → (b ≡ true → length one.bytes ≡ 0) → before_writes (if b then saved else saved ++ one ∷ []) base ≡ before_writes saved (put_back one base)
saved_or true saved one base none = ap (before_writes saved) (sym (put_back-none one base (none refl)))
saved_or false saved one base some = before_writes-push saved one base

no_bytes : (n : ℕ) → (n == 0) ≡ true → n ≡ 0
no_bytes n is = grind (arith, nat_tests)

-- a write adds what it replaced to what is put back
before_writes-saved : (saved : List Saved) (one : Saved) (base : List ℕ) → before_writes (with_saved saved one) base ≡ before_writes saved (put_back one base)
before_writes-saved saved one base = saved_or (length one.bytes == 0) saved one base (no_bytes (length one.bytes))

-- what a range replaced, put back over bytes that differ within it alone, gives the bytes that stood there
replaced_back : (file : FileView) (at n : ℕ) (now : List ℕ) → file.durable_len ≤ length file.seen → file.durable_len ≤ length now
    → ((k : ℕ) → k < file.durable_len → (k < at) ⊎ (at + n ≤ k) → get_or now k 0 ≡ get_or file.seen k 0)
    → put_back (replaced file at n) (take file.durable_len now) ≡ take file.durable_len file.seen
replaced_back file at n now fits reaches same =
    let one = replaced file at n in
    let base = take file.durable_len now in
    let size : length one.bytes ≡ min n (file.durable_len - at) = simp (length-take, length-drop) (omega arith) in
    let whole : length base ≡ file.durable_len = simp length-take (omega arith) in
    same_number_lists (put_back one base) (take file.durable_len file.seen) (length-put_back one base ∙ whole ∙ sym (simp length-take (omega arith)))
    (λ k h. let below : k < length base = omega (arith, h, length-put_back one base) in
    let reach : k < file.durable_len = omega (arith, below, whole) in
    elim (side k at (length one.bytes)) [
      | inl outside ↦
          put_back-outside one base k below outside ∙ get_or-take file.durable_len now k 0 reach
          ∙ same k reach (elim outside [ inl front ↦ inl front | inr behind ↦ inr (omega arith) ])
          ∙ sym (get_or-take file.durable_len file.seen k 0 reach)
      | inr within ↦
          put_back-inside one base k below within.0 within.1
          ∙ get_or-take (min n (file.durable_len - at)) (drop at file.seen) (k - at) 0 (omega arith)
          ∙ get_or-drop at file.seen (k - at) 0
          ∙ ap (λ (i : ℕ). get_or file.seen i 0) (omega arith)
          ∙ sym (get_or-take file.durable_len file.seen k 0 reach)
    ])

pub durable-touched : (file : FileView) (at n : ℕ) → file.durable_len ≤ length file.seen → durable_bytes (touched file at n) ≡ durable_bytes file
durable-touched file at n fits =
    before_writes-saved file.saved (replaced file at n) (take file.durable_len file.seen)
    ∙ ap (before_writes file.saved) (replaced_back file at n file.seen fits fits (λ k _ _. refl))

pub durable-written : (file : FileView) (at : ℕ) (bytes : List ℕ) → file.durable_len ≤ length file.seen → at ≤ length file.seen → durable_bytes (written file at bytes) ≡ durable_bytes file
durable-written file at bytes fits within =
    let now = over file.seen at bytes in
    before_writes-saved file.saved (replaced file at (length bytes)) (take file.durable_len now)
    ∙ ap (before_writes file.saved) (replaced_back file at (length bytes) now fits (omega (arith, length-over file.seen at bytes within))
    (λ k below outside. over-outside file.seen at bytes k within (omega arith) outside))

pub pattern-more : (pick place left : ℕ) → 0 < left → pattern pick place left ≡ pattern_byte pick place ∷ pattern pick (place + 1) (left - 1)
pattern-more pick place zero some = absurd (omega arith)
pattern-more pick place (suc left) some = ap (λ (n : ℕ). pattern_byte pick place ∷ pattern pick (place + 1) n) (omega arith)

pub length-pattern : (pick place n : ℕ) → length (pattern pick place n) ≡ n
length-pattern pick place zero = refl
length-pattern pick place (suc n) = omega (arith, length-pattern pick (place + 1) n)

pub before_writes-more : (saved : List Saved) (left : ℕ) (one : Saved) (base : List ℕ) → left < length saved → one ≡ get_or saved left one → before_writes (take (left + 1) saved) base ≡ before_writes (take left saved) (put_back one base)
before_writes-more saved left one base below is =
    ap (λ (front : List Saved). before_writes front base) (take_more saved left one below ∙ ap (λ (last : Saved). take left saved ++ last ∷ []) (sym is))
    ∙ before_writes-push (take left saved) one base

covers-push : (saved : List Saved) (one : Saved) (place : ℕ) → Covers (saved ++ one ∷ []) place → Covers saved place ⊎ ((one.at ≤ place) × (place < one.at + length one.bytes))
covers-push [] one place (inl here) = inr here
covers-push [] one place (inr none) = absurd none
covers-push (first ∷ saved) one place (inl here) = inl (inl here)
covers-push (first ∷ saved) one place (inr later) = elim (covers-push saved one place later) [ inl before ↦ inl (inr before) | inr here ↦ inr here ]

covers-front : (saved : List Saved) (one : Saved) (place : ℕ) → Covers saved place → Covers (saved ++ one ∷ []) place
covers-front [] one place none = absurd none
covers-front (first ∷ saved) one place (inl here) = inl here
covers-front (first ∷ saved) one place (inr later) = inr (covers-front saved one place later)

covers-last : (saved : List Saved) (one : Saved) (place : ℕ) → one.at ≤ place → place < one.at + length one.bytes → Covers (saved ++ one ∷ []) place
covers-last [] one place from to = inl (from, to)
covers-last (first ∷ saved) one place from to = inr (covers-last saved one place from to)

-- one more of the saved ranges is filled
pub filled_more : (pick : ℕ) (saved : List Saved) (i : ℕ) (one : Saved) (first mid last : List ℕ) → i < length saved → one ≡ get_or saved i one → length mid ≡ length first
    → IsFilled pick (take i saved) first mid
    → ((place : ℕ) → one.at ≤ place → place < one.at + length one.bytes → place < length mid → get_or last place 0 ≡ pattern_byte pick place)
    → ((place : ℕ) → (place < one.at) ⊎ (one.at + length one.bytes ≤ place) → get_or last place 0 ≡ get_or mid place 0)
    → IsFilled pick (take (i + 1) saved) first last
filled_more pick saved i one first mid last below is same filled within outside =
    let front : take (i + 1) saved ≡ take i saved ++ one ∷ [] = take_more saved i one below ∙ ap (λ (s : Saved). take i saved ++ s ∷ []) (sym is) in
    subst (λ (some : List Saved). IsFilled pick some first last) (sym front)
    (record {
      covered = λ place reach covers. elim (side place one.at (length one.bytes)) [
        | inl out ↦ outside place out ∙ filled.covered place reach (elim (covers-push (take i saved) one place covers) [ inl before ↦ before | inr here ↦ absurd (elim out [ inl f ↦ omega arith | inr b ↦ omega arith ]) ])
        | inr here ↦ within place here.0 here.1 (omega arith)
      ];
      others = λ place none. elim (side place one.at (length one.bytes)) [
        | inl out ↦ outside place out ∙ filled.others place (λ before. none (covers-front (take i saved) one place before))
        | inr here ↦ absurd (none (covers-last (take i saved) one place here.0 here.1))
      ];
    })

pub durable-torn : (file : FileView) → IsTorn (durable_bytes file) (IsPending file) file.seen (durable_bytes file)
durable-torn file = record {
  kept = λ at below none. refl;
  no_shorter = omega arith;
  no_longer = omega (arith, length-durable file);
}

patterned-torn : (pick : ℕ) (file : FileView) (image : List ℕ) → IsPatterned pick file image → IsTorn (durable_bytes file) (IsPending file) file.seen image
patterned-torn pick file image patterned =
    let fits : length (durable_bytes file) ≤ length file.seen = omega (arith, length-durable file) in
    record {
      kept = λ at below none. patterned.kept at (omega (arith, patterned.len, below)) none ∙ durable-kept file at below none;
      no_shorter = omega (arith, patterned.len);
      no_longer = omega (arith, patterned.len, fits);
    }

-- what a pick leaves of a file is an image of it
pub picked-torn : (pick : ℕ) (file : FileView) (image : List ℕ) → IsPicked pick file image → IsTorn (durable_bytes file) (IsPending file) file.seen image
picked-torn zero file image picked = subst (IsTorn (durable_bytes file) (IsPending file) file.seen) (sym (picked.durable refl)) (durable-torn file)
picked-torn (suc zero) file image picked = subst (IsTorn (durable_bytes file) (IsPending file) file.seen) (sym (picked.seen refl)) (seen-torn file)
picked-torn (suc (suc more)) file image picked = patterned-torn (suc (suc more)) file image (picked.patterned (omega arith))

pub durable-synced : (file : FileView) → durable_bytes (synced file) ≡ file.seen
durable-synced file = take-length file.seen

pub synced-whole : (file : FileView) (place : ℕ) → IsPending (synced file) place → ⊥
synced-whole file place (inl tail) = omega arith
synced-whole file place (inr none) = none

covers-with : (b : Bool) (saved : List Saved) (one : Saved) (place : ℕ) → Covers (if b then saved else saved ++ one ∷ []) place → Covers saved place ⊎ ((one.at ≤ place) × (place < one.at + length one.bytes))
covers-with true saved one place covers = inl covers
covers-with false saved one place covers = covers-push saved one place covers

-- a place that a range has touched was pending, or lies in the range
covers-replaced : (file : FileView) (at n place : ℕ) → Covers (with_saved file.saved (replaced file at n)) place → Covers file.saved place ⊎ ((at ≤ place) × (place < at + n))
covers-replaced file at n place covers =
    let size : length (replaced file at n).bytes ≤ n = simp length-take (omega arith) in
    elim (covers-with (length (replaced file at n).bytes == 0) file.saved (replaced file at n) place covers) [
      | inl before ↦ inl before
      | inr here ↦ inr (here.0, omega arith)
    ]

pub pending-touched : (file : FileView) (at n place : ℕ) → IsPending (touched file at n) place → IsPending file place ⊎ ((at ≤ place) × (place < at + n))
pending-touched file at n place (inl tail) = inl (inl tail)
pending-touched file at n place (inr covers) = elim (covers-replaced file at n place covers) [ inl before ↦ inl (inr before) | inr here ↦ inr here ]

pub pending-written : (file : FileView) (at : ℕ) (bytes : List ℕ) (place : ℕ) → at ≤ length file.seen → IsPending (written file at bytes) place → IsPending file place ⊎ ((at ≤ place) × (place < at + length bytes))
pending-written file at bytes place within (inl tail) =
    elim (cases_lt place (length file.seen)) [
      | inl below ↦ inl (inl (tail.0, below))
      | inr behind ↦ inr (omega arith, omega (arith, tail.1, length-over file.seen at bytes within))
    ]
pending-written file at bytes place within (inr covers) = elim (covers-replaced file at (length bytes) place covers) [ inl before ↦ inl (inr before) | inr here ↦ inr here ]

pub patterned-cut : (pick : ℕ) (file : FileView) (filled image : List ℕ) (left : ℕ) → length filled ≡ length file.seen → IsPatternedOver pick file filled → left ≡ pattern_len pick file → image ≡ take left filled → IsPatterned pick file image
patterned-cut pick file filled image left same filling is cut =
    let fits : pattern_len pick file ≤ length file.seen = omega (arith, length-durable file) in
    let len : length image ≡ left = ap length cut ∙ simp length-take (omega arith) in
    record {
      len = len ∙ is;
      pending = λ place below pending. subst (λ (l : List ℕ). get_or l place 0 ≡ pattern_byte pick place) (sym cut)
          (get_or-take left filled place 0 (omega arith) ∙ filling.pending place (omega arith) pending);
      kept = λ place below none. subst (λ (l : List ℕ). get_or l place 0 ≡ get_or file.seen place 0) (sym cut)
          (get_or-take left filled place 0 (omega arith) ∙ filling.kept place none);
    }

-- a place that is saved or not
saved_side : (saved : List Saved) (place : ℕ) → Covers saved place ⊎ (Covers saved place → ⊥)
saved_side [] place = inr (λ none. none)
saved_side (one ∷ saved) place = elim (saved_side saved place) [
  | inl covers ↦ inl (inr covers)
  | inr none ↦ elim (side place one.at (length one.bytes)) [
    | inl out ↦ inr (λ covers. elim covers [ inl here ↦ absurd (elim out [ inl f ↦ omega arith | inr b ↦ omega arith ]) | inr later ↦ none later ])
    | inr here ↦ inl (inl here)
  ]
]

pub over_pending : (pick : ℕ) (file : FileView) (mid filled : List ℕ)
    → ((place : ℕ) → file.durable_len ≤ place → place < length file.seen → place < length file.seen → get_or mid place 0 ≡ pattern_byte pick place)
    → ((place : ℕ) → (place < file.durable_len) ⊎ (length file.seen ≤ place) → get_or mid place 0 ≡ get_or file.seen place 0)
    → length mid ≡ length file.seen → IsFilled pick file.saved mid filled → IsPatternedOver pick file filled
over_pending pick file mid filled within outside same filling = record {
  pending = λ place below pending. elim (saved_side file.saved place) [
    | inl covers ↦ filling.covered place (omega arith) covers
    | inr none ↦ filling.others place none ∙ (elim pending [ inl tail ↦ within place tail.0 tail.1 tail.1 | inr covers ↦ absurd (none covers) ])
  ];
  kept = λ place none. filling.others place (λ covers. none (inr covers)) ∙ outside place (elim (cases_lt place file.durable_len) [
    | inl front ↦ inl front
    | inr from ↦ elim (cases_lt place (length file.seen)) [ inl below ↦ absurd (none (inl (from, below))) | inr behind ↦ inr behind ]
  ]);
}
