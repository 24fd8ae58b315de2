-- The content of an item that is read is the content that is spelled, and what is spelled is read again.
use Rattle.std.proofs.Common.{◌≡◌, ℕ, List, ◌∷◌, ◌++◌, Some, refl, ap, subst, ◌∙◌, append_assoc}
use Rattle.std.proofs.lemmas.Option.{same_Some}
use Rattle.pb_bytes.specs.Reading.{number_split, field_split}
use Rattle.pb_bytes.specs.Varint.{varint, field}
use Rattle.pb_bytes.proofs.Steps.{bind_some, Splits, both_split}
use Rattle.pb_edit.specs.Edit.{DeletedItem, PhysicalItem, VirtualItem, CreatedItem}
use Rattle.pb_edit.specs.Grammar.{deleted_content, physical_content, virtual_content, created_content, removed_content, IsDeleted, IsPhysical, IsVirtual, IsCreated}
use Rattle.pb_bytes.specs.Number.{IsNumber}
use Rattle.pb_edit.specs.Reading.{ItemKind, level_at, deleted_at, physical_at, virtual_at, created_at, deleted_kind, physical_kind, virtual_kind, created_kind, removed_kind}
use Rattle.pb_edit.proofs.Parts.{number_takes, number_again, bytes_takes, bytes_again, level_takes, level_again}

-- each content is read where it is spelled, and nowhere else
pub record ReadsContents {X : Type 0} (kind : ItemKind X) (content : X → List ℕ) (IsItem : X → Type 0) : Type 0 where
  pub takes : (bytes : List ℕ) (x : X × List ℕ) → kind.content_at bytes ≡ Some x → Splits bytes (content x.0) x.1 × IsItem x.0
  pub again : (item : X) (rest : List ℕ) → IsItem item → kind.content_at (content item ++ rest) ≡ Some (item, rest)

-- ---- deleted tables

deleted_takes : (bytes : List ℕ) (x : DeletedItem × List ℕ) → deleted_at bytes ≡ Some x → Splits bytes (deleted_content x.0) x.1 × IsDeleted x.0
unfolding deleted_at
deleted_takes bytes x e =
    let level = bind_some (level_at bytes) _ x e in
    let number = bind_some (number_split level.0.1) _ x level.2 in
    let is_level = level_takes bytes level.0 level.1 in
    let is_number = number_takes level.0.1 number.0 number.1 in
    let made : DeletedItem × List ℕ = (record { level = level.0.0; number = number.0.0 }, number.0.1) in
    subst (λ (y : DeletedItem × List ℕ). Splits bytes (deleted_content y.0) y.1 × IsDeleted y.0) (same_Some made x number.2)
    (is_level.0 ∙ ap (λ (rest : List ℕ). level.0.0 ∷ rest) is_number.0, record { level = is_level.1; number = is_number.1 })

deleted_again : (d : DeletedItem) (rest : List ℕ) → IsDeleted d → deleted_at (deleted_content d ++ rest) ≡ Some (d, rest)
unfolding deleted_at
deleted_again d rest is = rw (level_again d.level (varint d.number ++ rest) is.level, number_again d.number rest is.number) refl

pub deleted_reads : ReadsContents deleted_kind deleted_content IsDeleted
deleted_reads = record { takes = deleted_takes; again = deleted_again }

-- ---- physical tables

physical_takes : (bytes : List ℕ) (x : PhysicalItem × List ℕ) → physical_at bytes ≡ Some x → Splits bytes (physical_content x.0) x.1 × IsPhysical x.0
unfolding physical_at
physical_takes bytes x e =
    let level = bind_some (level_at bytes) _ x e in
    let number = bind_some (number_split level.0.1) _ x level.2 in
    let rank = bind_some (number_split number.0.1) _ x number.2 in
    let size = bind_some (number_split rank.0.1) _ x rank.2 in
    let lo = bind_some (field_split size.0.1) _ x size.2 in
    let hi = bind_some (field_split lo.0.1) _ x lo.2 in
    let is_level = level_takes bytes level.0 level.1 in
    let is_number = number_takes level.0.1 number.0 number.1 in
    let is_rank = number_takes number.0.1 rank.0 rank.1 in
    let is_size = number_takes rank.0.1 size.0 size.1 in
    let is_lo = bytes_takes size.0.1 lo.0 lo.1 in
    let is_hi = bytes_takes lo.0.1 hi.0 hi.1 in
    let made : PhysicalItem × List ℕ = (record { level = level.0.0; number = number.0.0; rank = rank.0.0; size = size.0.0; lo = lo.0.0; hi = hi.0.0 }, hi.0.1) in
    let ends = both_split size.0.1 lo.0.1 hi.0.1 (field lo.0.0) (field hi.0.0) is_lo.0 is_hi.0 in
    let sized = both_split rank.0.1 size.0.1 hi.0.1 (varint size.0.0) (field lo.0.0 ++ field hi.0.0) is_size.0 ends in
    let ranked = both_split number.0.1 rank.0.1 hi.0.1 (varint rank.0.0) (varint size.0.0 ++ (field lo.0.0 ++ field hi.0.0)) is_rank.0 sized in
    let numbered = both_split level.0.1 number.0.1 hi.0.1 (varint number.0.0) (varint rank.0.0 ++ (varint size.0.0 ++ (field lo.0.0 ++ field hi.0.0))) is_number.0 ranked in
    let spelled : Splits bytes (physical_content made.0) made.1 = is_level.0 ∙ ap (λ (t : List ℕ). level.0.0 ∷ t) numbered in
    subst (λ (y : PhysicalItem × List ℕ). Splits bytes (physical_content y.0) y.1 × IsPhysical y.0) (same_Some made x hi.2)
    (spelled, record { level = is_level.1; number = is_number.1; rank = is_rank.1; size = is_size.1; lo = is_lo.1; hi = is_hi.1 })

physical_again : (p : PhysicalItem) (rest : List ℕ) → IsPhysical p → physical_at (physical_content p ++ rest) ≡ Some (p, rest)
unfolding physical_at
physical_again p rest is =
    let spelled : physical_content p ++ rest ≡ p.level ∷ (varint p.number ++ (varint p.rank ++ (varint p.size ++ (field p.lo ++ (field p.hi ++ rest))))) = simp append_assoc in
    ap physical_at spelled ∙ rw (
      level_again p.level (varint p.number ++ (varint p.rank ++ (varint p.size ++ (field p.lo ++ (field p.hi ++ rest))))) is.level,
      number_again p.number (varint p.rank ++ (varint p.size ++ (field p.lo ++ (field p.hi ++ rest)))) is.number,
      number_again p.rank (varint p.size ++ (field p.lo ++ (field p.hi ++ rest))) is.rank,
      number_again p.size (field p.lo ++ (field p.hi ++ rest)) is.size,
      bytes_again p.lo (field p.hi ++ rest) is.lo,
      bytes_again p.hi rest is.hi,
    ) refl

pub physical_reads : ReadsContents physical_kind physical_content IsPhysical
physical_reads = record { takes = physical_takes; again = physical_again }

-- ---- virtual tables

virtual_takes : (bytes : List ℕ) (x : VirtualItem × List ℕ) → virtual_at bytes ≡ Some x → Splits bytes (virtual_content x.0) x.1 × IsVirtual x.0
unfolding virtual_at
virtual_takes bytes x e =
    let level = bind_some (level_at bytes) _ x e in
    let number = bind_some (number_split level.0.1) _ x level.2 in
    let rank = bind_some (number_split number.0.1) _ x number.2 in
    let backing = bind_some (number_split rank.0.1) _ x rank.2 in
    let lo = bind_some (field_split backing.0.1) _ x backing.2 in
    let hi = bind_some (field_split lo.0.1) _ x lo.2 in
    let prefix = bind_some (field_split hi.0.1) _ x hi.2 in
    let suffix = bind_some (field_split prefix.0.1) _ x prefix.2 in
    let is_level = level_takes bytes level.0 level.1 in
    let is_number = number_takes level.0.1 number.0 number.1 in
    let is_rank = number_takes number.0.1 rank.0 rank.1 in
    let is_backing = number_takes rank.0.1 backing.0 backing.1 in
    let is_lo = bytes_takes backing.0.1 lo.0 lo.1 in
    let is_hi = bytes_takes lo.0.1 hi.0 hi.1 in
    let is_prefix = bytes_takes hi.0.1 prefix.0 prefix.1 in
    let is_suffix = bytes_takes prefix.0.1 suffix.0 suffix.1 in
    let made : VirtualItem × List ℕ = (record { level = level.0.0; number = number.0.0; rank = rank.0.0; backing = backing.0.0; lo = lo.0.0; hi = hi.0.0; prefix = prefix.0.0; suffix = suffix.0.0 }, suffix.0.1) in
    let s6 = field prefix.0.0 ++ field suffix.0.0 in
    let s5 = field hi.0.0 ++ s6 in
    let s4 = field lo.0.0 ++ s5 in
    let s3 = varint backing.0.0 ++ s4 in
    let s2 = varint rank.0.0 ++ s3 in
    let parts = both_split hi.0.1 prefix.0.1 suffix.0.1 (field prefix.0.0) (field suffix.0.0) is_prefix.0 is_suffix.0 in
    let end = both_split lo.0.1 hi.0.1 suffix.0.1 (field hi.0.0) s6 is_hi.0 parts in
    let ends = both_split backing.0.1 lo.0.1 suffix.0.1 (field lo.0.0) s5 is_lo.0 end in
    let backed = both_split rank.0.1 backing.0.1 suffix.0.1 (varint backing.0.0) s4 is_backing.0 ends in
    let ranked = both_split number.0.1 rank.0.1 suffix.0.1 (varint rank.0.0) s3 is_rank.0 backed in
    let numbered = both_split level.0.1 number.0.1 suffix.0.1 (varint number.0.0) s2 is_number.0 ranked in
    let spelled : Splits bytes (virtual_content made.0) made.1 = is_level.0 ∙ ap (λ (t : List ℕ). level.0.0 ∷ t) numbered in
    subst (λ (y : VirtualItem × List ℕ). Splits bytes (virtual_content y.0) y.1 × IsVirtual y.0) (same_Some made x suffix.2)
    (spelled, record { level = is_level.1; number = is_number.1; rank = is_rank.1; backing = is_backing.1; lo = is_lo.1; hi = is_hi.1; prefix = is_prefix.1; suffix = is_suffix.1 })

virtual_again : (v : VirtualItem) (rest : List ℕ) → IsVirtual v → virtual_at (virtual_content v ++ rest) ≡ Some (v, rest)
unfolding virtual_at
virtual_again v rest is =
    let t6 = field v.suffix ++ rest in
    let t5 = field v.prefix ++ t6 in
    let t4 = field v.hi ++ t5 in
    let t3 = field v.lo ++ t4 in
    let t2 = varint v.backing ++ t3 in
    let t1 = varint v.rank ++ t2 in
    let spelled : virtual_content v ++ rest ≡ v.level ∷ (varint v.number ++ t1) = simp append_assoc in
    ap virtual_at spelled ∙ rw (
      level_again v.level (varint v.number ++ t1) is.level,
      number_again v.number t1 is.number,
      number_again v.rank t2 is.rank,
      number_again v.backing t3 is.backing,
      bytes_again v.lo t4 is.lo,
      bytes_again v.hi t5 is.hi,
      bytes_again v.prefix t6 is.prefix,
      bytes_again v.suffix rest is.suffix,
    ) refl

pub virtual_reads : ReadsContents virtual_kind virtual_content IsVirtual
virtual_reads = record { takes = virtual_takes; again = virtual_again }

-- ---- backings

created_takes : (bytes : List ℕ) (x : CreatedItem × List ℕ) → created_at bytes ≡ Some x → Splits bytes (created_content x.0) x.1 × IsCreated x.0
unfolding created_at
created_takes bytes x e =
    let number = bind_some (number_split bytes) _ x e in
    let size = bind_some (number_split number.0.1) _ x number.2 in
    let is_number = number_takes bytes number.0 number.1 in
    let is_size = number_takes number.0.1 size.0 size.1 in
    let made : CreatedItem × List ℕ = (record { number = number.0.0; size = size.0.0 }, size.0.1) in
    let spelled = both_split bytes number.0.1 size.0.1 (varint number.0.0) (varint size.0.0) is_number.0 is_size.0 in
    subst (λ (y : CreatedItem × List ℕ). Splits bytes (created_content y.0) y.1 × IsCreated y.0) (same_Some made x size.2)
    (spelled, record { number = is_number.1; size = is_size.1 })

created_again : (c : CreatedItem) (rest : List ℕ) → IsCreated c → created_at (created_content c ++ rest) ≡ Some (c, rest)
unfolding created_at
created_again c rest is =
    ap created_at (append_assoc (varint c.number) (varint c.size) rest) ∙ rw (number_again c.number (varint c.size ++ rest) is.number, number_again c.size rest is.size) refl

pub created_reads : ReadsContents created_kind created_content IsCreated
created_reads = record { takes = created_takes; again = created_again }

pub removed_reads : ReadsContents removed_kind removed_content IsNumber
removed_reads = record { takes = number_takes; again = number_again }
