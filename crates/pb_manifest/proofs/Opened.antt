-- The folder before an opening, by what was found behind the current pointer, and after it.
use Rattle.std.proofs.Common.{◌≡◌, ◌<◌, ◌^◌, ℕ, List, [], Option, Some, IfSome, IsSome, IsSomeAnd, sym, ◌∙◌, subst, inl, inr, arith}
use Rattle.pb_devices.specs.Contents.{Contents, Folder, IsSettled, KeepsOthers}
use Rattle.pb_devices.specs.DiskCalls.{Stays}
use Rattle.pb_devices.proofs.Kept.{kept_at_then, kept_but_more, stays_kept_at, stays_same}
use Rattle.pb_gate_log.specs.Calls.{IsOpened, Opens}
use Rattle.pb_gate_log.specs.EachLog.{LogPlace}
use Rattle.pb_gate_log.specs.Payloads.{HasList, payloads, payloads_in}
use Rattle.pb_gate_log.proofs.FilePayloads.{has_payloads, such_in}
use Rattle.pb_gate_log.proofs.LogStates.{each_kept, each_kept_at}
use Rattle.pb_gate_log.specs.NewFolder.{IsNew}
use Rattle.pb_names.specs.Spelling.{current_name}
use Rattle.pb_payloads.specs.Current.{Pointer, SaysCurrent, pointer_to}
use Rattle.pb_version.specs.Version.{VersionView}
use Rattle.pb_version.specs.SaysVersion.{SaysVersion}
use Rattle.pb_manifest.specs.Found.{AreThere, HasVersion, IsDamaged, IsLacking, IsNamed, IsUnfolded, IsUnreserved, KeepsPayloads, KeepsUnnamed, Names, Says}
use Rattle.pb_manifest.specs.Manifest.{EachManifest, catalogue_name, first_len, manifest_name}
use Rattle.pb_manifest.specs.Steps.{IsFound, IsLost, IsUnread, OpensIfThere}
use Rattle.pb_manifest.proofs.Folders.{apart, apart_catalogue, has_such, such_has}
use Rattle.pb_manifest.proofs.Opening.{both_keep, both_settled, new_names_none}
use Rattle.pb_manifest.proofs.Logs.{opened_there}
use Rattle.pb_keys.proofs.Options.{some_has}

-- ---- two folders in which the two files are the same

module _ (number catalogue : ℕ) (one two : Folder) (manifest : one (manifest_name number) ≡ two (manifest_name number)) where
  says_carried : (version : VersionView) → Says number version one → Says number version two
  says_carried version says = subst (λ (f : Option (List ℕ)). IsSomeAnd f (λ bytes. SaysVersion (payloads bytes) version)) manifest says

  says_back : (version : VersionView) → Says number version two → Says number version one
  says_back version says = subst (λ (f : Option (List ℕ)). IsSomeAnd f (λ bytes. SaysVersion (payloads bytes) version)) (sym manifest) says

  unreserved_carried : IsUnreserved number one → IsUnreserved number two
  unreserved_carried found = (found.0, says_carried found.0 found.1, found.2)

  unfolded_carried : IsUnfolded number one → IsUnfolded number two
  unfolded_carried unfolded version says = unfolded version (says_back version says)

  there_carried : one (catalogue_name catalogue) ≡ two (catalogue_name catalogue) → AreThere number catalogue one
      → AreThere number catalogue two
  there_carried same there =
      (subst (λ (f : Option (List ℕ)). IsSome f) manifest there.0, subst (λ (f : Option (List ℕ)). IsSome f) same there.1)

  lacking_carried : one (catalogue_name catalogue) ≡ two (catalogue_name catalogue) → IsLacking number catalogue one
      → IsLacking number catalogue two
  lacking_carried same lacking =
      elim lacking [
        | inl none ↦ inl (sym manifest ∙ none)
        | inr none ↦ inr (sym same ∙ none)
      ]

-- ---- what is found behind the current pointer, which was opened and whose disk then stays

module _ (old mid : Contents) (list : List (List ℕ)) (has : HasList list (old.seen current_name))
    (others : KeepsOthers old mid current_name) where
  names_before : (pointer : Pointer) → SaysCurrent list pointer → Names pointer old.seen
  names_before pointer says =
      has_such list (old.seen current_name) (λ l. SaysCurrent l pointer) has says

  manifest_before : (number : ℕ) → number < 2 ^ 62 → mid.seen (manifest_name number) ≡ old.seen (manifest_name number)
  manifest_before number low = (others (manifest_name number) (λ is. apart number low (sym is))).reads

  catalogue_before : (number : ℕ) → number < 2 ^ 62 → mid.seen (catalogue_name number) ≡ old.seen (catalogue_name number)
  catalogue_before number low = (others (catalogue_name number) (λ is. apart_catalogue number low (sym is))).reads

  pub is_new : list ≡ [] → IsNew old.seen
  is_new none = has_payloads list (old.seen current_name) has ∙ none

  -- it names nothing, or what isn't there
  pub lost_is_damaged : (list ≡ [] → ⊥) → (file : List ℕ) → file ≡ current_name → IsLost list mid.seen → IsDamaged old.seen file
  lost_is_damaged some file is lost =
      elim lost [
        | inl nothing ↦ inl (
          is,
          (
            (λ new. some (sym (has_payloads list (old.seen current_name) has) ∙ new)),
            (λ pointer names. nothing pointer (such_has list (old.seen current_name) (λ l. SaysCurrent l pointer) has names)),
          ),
        )
        | inr absent ↦
            let pointer = absent.0 in
            let form = absent.1.in_form in
            inr (
              pointer,
              names_before pointer absent.1,
              inl (
                is,
                inl (lacking_carried pointer.manifest pointer.catalogue mid.seen old.seen
                    (manifest_before pointer.manifest form.manifest) (catalogue_before pointer.catalogue form.catalogue) absent.2),
              ),
            )
      ]

  -- it names two files that are there, and the disk stays while they are asked for
  pub is_found : (same : Contents) (current : LogPlace) (number catalogue : ℕ) → IsOpened current_name list current old mid
      → Stays mid same → SaysCurrent list (pointer_to number catalogue) → AreThere number catalogue mid.seen
      → IsFound current number catalogue old same
  is_found same current number catalogue opened stays names there = record {
    payloads = list;
    opened = record {
      name = opened.name;
      had = has;
      each = each_kept_at current list mid same
          (stays_kept_at mid same current.file (stays current.file)) opened.each;
    };
    names = names;
    there =
        there_carried number catalogue mid.seen old.seen (manifest_before number names.in_form.manifest)
        (catalogue_before catalogue names.in_form.catalogue) there;
  }

-- ---- what stays

pub new_undamaged : (folder : Folder) (file : List ℕ) → IsNew folder → IsDamaged folder file → ⊥
new_undamaged folder file new damaged =
    elim damaged [
      | inl pointless ↦ pointless.1.0 new
      | inr amiss ↦ new_names_none folder amiss.0 new amiss.1
    ]

pub unnamed_kept : (old new : Contents) → KeepsOthers old new current_name → KeepsUnnamed old new
unnamed_kept old new others = kept_but_more (λ name. name ≡ current_name) (λ name. IsNamed name old.seen) old new (λ name is. inl is) others

pub settled_log : (file : List ℕ) (list : List (List ℕ)) (log : LogPlace) (old new : Contents) → IsOpened file list log old new
    → IsSettled new file
settled_log file list log old new opened = subst (λ (n : List ℕ). IsSettled new n) opened.name opened.each.settled

-- nothing was pending, and the current pointer and the two files that it names were found
pub record IsOpening (current : LogPlace) (number catalogue : ℕ) (old mid : Contents) : Type 0 where
  pub settled : (name : List ℕ) → IsSettled old name
  pub opens : OpensIfThere current_name old mid
  pub found : IsFound current number catalogue old mid

pub is_opening : (old mid : Contents) → ((name : List ℕ) → IsSettled old name)
    → OpensIfThere current_name old mid → (found : Option (LogPlace × ℕ × ℕ)) (current : LogPlace) (number catalogue : ℕ)
    → found ≡ Some (current, number, catalogue) → IfSome found (λ named. IsFound named.0 named.1 named.2 old mid)
    → IsOpening current number catalogue old mid
is_opening old mid settled opens found current number catalogue is all = record {
  settled = settled;
  opens = opens;
  found = some_has found (λ named. IsFound named.0 named.1 named.2 old mid) (current, number, catalogue) is all;
}

module _ (old mid : Contents) (current : LogPlace) (number catalogue : ℕ) (state : IsOpening current number catalogue old mid) where
  found : IsFound current number catalogue old mid
  found = state.found

  low : number < 2 ^ 62
  low = found.names.in_form.manifest

  other : manifest_name number ≡ current_name → ⊥
  other is = apart number low (sym is)

  same_manifest : mid.seen (manifest_name number) ≡ old.seen (manifest_name number)
  same_manifest = (state.opens.others (manifest_name number) other).reads

  pub are_named : Names (pointer_to number catalogue) old.seen
  are_named =
      has_such found.payloads (old.seen current_name) (λ l. SaysCurrent l (pointer_to number catalogue)) found.opened.had found.names

  pub is_there : IsSome (mid.seen (manifest_name number))
  is_there = subst (λ (f : Option (List ℕ)). IsSome f) (sym same_manifest) found.there.0

  pub manifest_settled : IsSettled mid (manifest_name number)
  manifest_settled = (state.opens.others (manifest_name number) other).settled (state.settled (manifest_name number))

  pub unread_is_damaged : (file : List ℕ) → IsUnread number mid.seen file → IsDamaged old.seen file
  unread_is_damaged file unread =
      inr (
        pointer_to number catalogue,
        are_named,
        elim unread [
          | inl unreserved ↦ inl (
            unreserved.0,
            inr
                (found.there, unreserved_carried number catalogue mid.seen old.seen same_manifest unreserved.1),
          )
          | inr unfolded ↦ inr (unfolded.0, (found.there, unfolded_carried number catalogue mid.seen old.seen same_manifest unfolded.1))
        ],
      )

  pub had_version : (version : VersionView) → Says number version mid.seen → number < version.five.next
      → HasVersion number catalogue version old.seen
  had_version version says own = record {
    there = found.there.1;
    says = says_carried number catalogue mid.seen old.seen same_manifest version says;
    own = own;
  }

  -- and the manifest was opened
  module _ (new : Contents) (opens : Opens (manifest_name number) mid new) where
    then : OpensIfThere (manifest_name number) mid new
    then = opened_there mid mid new (manifest_name number) is_there (stays_same mid) opens

    pub read_keeps : KeepsPayloads old new
    read_keeps = both_keep old mid state.settled state.opens new number low then

    pub read_unnamed : KeepsUnnamed old new
    read_unnamed name unnamed =
        kept_at_then old mid new name (state.opens.others name (λ is. unnamed (inl is)))
        (opens.others name (λ is. unnamed (inr (pointer_to number catalogue, are_named, is))))

    pub read_settled : IsSettled mid current_name → IsSettled new (manifest_name number) → (name : List ℕ) → IsSettled new name
    read_settled first last = both_settled old mid state.settled state.opens new number low then first last

    -- it stands at rest then
    pub opened_manifest : (version : VersionView) (next first : ℕ) (log : LogPlace) → next ≡ version.five.next
        → first ≡ first_len (payloads_in (mid.seen (manifest_name number)))
        → IsOpened (manifest_name number) (payloads_in (mid.seen (manifest_name number))) log mid new → Says number version mid.seen
        → number < version.five.next
        → EachManifest (record { number = number; catalogue = catalogue; next = next; first = first; log = log; current = current }) version new
    opened_manifest version next first log next_is first_is opened says own = record {
      pointers = found.payloads;
      current =
          each_kept current found.payloads mid new (manifest_name number) (λ is. other (sym is ∙ found.opened.name))
          opens.others found.opened.each;
      current_file = found.opened.name;
      names = found.names;
      edits = payloads_in (mid.seen (manifest_name number));
      log = opened.each;
      log_file = opened.name;
      says = such_in (mid.seen (manifest_name number)) (λ l. SaysVersion l version) says;
      first_is = first_is;
      drawn = omega (arith, next_is);
      own = own;
    }
