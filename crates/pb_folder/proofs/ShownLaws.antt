-- What folders show, and what a program may begin with.
use Rattle.std.proofs.Common.{◌≡◌, ℕ, Bool, true, false, inl, inr, Option, Some, None, List, [], ◌∷◌, refl, sym, ap, ◌∙◌, subst}
use Rattle.std.specs.Prelude.{IsSome, IsSomeAnd, if◌then◌else◌}
use Rattle.std.specs.FinMap.{contains_key, empty, get}
use Rattle.std.specs.List.{All, cons_option, filter_map}
use Rattle.std.specs.Option.{option_map, option_and_then}
use Rattle.std.proofs.lemmas.Bool.{both_ways, cases_Bool, cond-true, cond-false, and_parts, false_from_ne_true}
use Rattle.std.proofs.lemmas.Option.{same_Some}
use Rattle.std.proofs.lemmas.List.Elements.{All-head, All-tail, All-nil, All-cons}
use Rattle.pb_devices.specs.Contents.{Folder}
use Rattle.pb_devices.specs.Objects.{Objects}
use Rattle.pb_keys.specs.Map.{Map}
use Rattle.pb_names.specs.Identity.{Identity, IsStore}
use Rattle.pb_names.specs.Named.{object}
use Rattle.pb_names.specs.Ranges.{is_object, is_store}
use Rattle.pb_names.specs.Spelling.{current_name, file_name, object_name}
use Rattle.pb_names.specs.declared.file_kind.FileKind.TheVariants.{Manifest, Catalogue, Log, Table}
use Rattle.pb_names.proofs.NamedLemmas.{prefix_tells_shared}
use Rattle.pb_names.proofs.RangeLemmas.{tests_tell_stores, object_is}
use Rattle.pb_payloads.specs.Catalogue.{Entries, SaysCatalogue, with_id}
use Rattle.pb_payloads.specs.Current.{SaysCurrent}
use Rattle.pb_payloads.specs.Log.{SaysLog}
use Rattle.pb_payloads.specs.Places.{in_place, object_of}
use Rattle.pb_edit.specs.Edit.{CreatedItem}
use Rattle.pb_gate_log.specs.NewFolder.{IsNew}
use Rattle.pb_gate_log.specs.Payloads.{HasList, HasPayloads, payloads, payloads_in}
use Rattle.pb_rows.specs.Layer.{KeyLayer}
use Rattle.pb_version.specs.SaysVersion.{SaysVersion}
use Rattle.pb_version.specs.Stored.{stored_in}
use Rattle.pb_marker_world.specs.declared.stages.Stage.TheVariants.{Held, Loose}
use Rattle.pb_marker_world.specs.Machine.{Entry, Marker}
use Rattle.pb_marker_world.specs.Bucket.{is_marker, name_of, shown_names, is_shared_name, NamesInForm}
use Rattle.pb_marker_world.specs.Sound.{IsSettled, IsSound, IsSteady}
use Rattle.pb_marker_world.proofs.BucketLemmas.{as_named, marker_in_form, marker_named}
use Rattle.pb_marker_world.proofs.RunLaws.{bare_sound, closed_steady}
use Rattle.pb_folder.specs.Held.{IsStored, IsTableOf, named_objects}
use Rattle.pb_folder.specs.Said.{Said, Says}
use Rattle.pb_folder.specs.Shown.{Words, Shows, is_named, shared_of, closed_entry, closed_part, words_of, closed_world, HasNoShared, IsShown, StandsForSome, IsGood, KeepsPayloadsOf, named_by, StaysNamed}
use Rattle.pb_folder.specs.StandsFor.{StandsFor}
use Rattle.pb_folder.proofs.Lists.{All-both}
use Rattle.pb_folder.proofs.SaidLaws.{one_said}
use Rattle.pb_folder.proofs.OneMeaning.{new_says_nothing}
use Rattle.pb_folder.proofs.AlikeLaws.{stands_beside}

-- ---- words

pub one_shown : (folder : Folder) (id other : ℕ) (one two : Words) → Shows folder id one → Shows folder other two → one ≡ two
one_shown folder id other None None a b = refl
one_shown folder id other None (Some said) a b = absurd (new_says_nothing folder other said a b)
one_shown folder id other (Some said) None a b = absurd (new_says_nothing folder id said b a)
one_shown folder id other (Some said) (Some again) a b = ap Some (one_said folder id other said again a b)

-- a file with the same list has what is said of its payloads
relisted : (one other : Option (List ℕ)) (list : List (List ℕ)) (AreSuch : List (List ℕ) → Type 0) → HasList list one → HasList list other
    → IsSomeAnd one (λ bytes. AreSuch (payloads bytes)) → IsSomeAnd other (λ bytes. AreSuch (payloads bytes))
relisted None other list AreSuch a b has = absurd has
relisted (Some bytes) None list AreSuch a b has = absurd b
relisted (Some bytes) (Some others) list AreSuch a b has = subst AreSuch (a ∙ sym b) has

same_payloads : (one other : Option (List ℕ)) (list : List (List ℕ)) → HasList list one → HasList list other
    → payloads_in other ≡ payloads_in one
same_payloads None other list a b = absurd a
same_payloads (Some bytes) None list a b = absurd b
same_payloads (Some bytes) (Some others) list a b = b ∙ sym a

module _ (one other : Folder) (keeps : KeepsPayloadsOf one other) where
  kept : (name : List ℕ) (AreSuch : List (List ℕ) → Type 0) → HasPayloads one name AreSuch → HasPayloads other name AreSuch
  kept name AreSuch has =
      elim (keeps name) [
        | inl same ↦ subst (λ (file : Option (List ℕ)). IsSomeAnd file (λ bytes. AreSuch (payloads bytes))) (sym same) has
        | inr both ↦ relisted (one name) (other name) both.list AreSuch both.first both.second has
      ]

  new_kept : IsNew one → IsNew other
  new_kept new =
      elim (keeps current_name) [
        | inl same ↦ ap payloads_in same ∙ new
        | inr both ↦ same_payloads (one current_name) (other current_name) both.list both.first both.second ∙ new
      ]

  says_kept : (id : ℕ) (said : Said) → Says one id said → Says other id said
  says_kept id said says =
      record {
        current = kept current_name (λ list. SaysCurrent list said.pointer) says.current;
        manifest = kept (file_name Manifest said.pointer.manifest) (λ list. SaysVersion list said.version) says.manifest;
        catalogue = kept (file_name Catalogue said.pointer.catalogue) (λ list. SaysCatalogue list (with_id id said.entries)) says.catalogue;
        log = kept (file_name Log said.version.five.log) (λ list. SaysLog said.version.five.flushed list said.log) says.log;
        reserved = says.reserved;
        entered = says.entered;
        bare = says.bare;
        waits = says.waits;
      }

  pub shows_kept : (id : ℕ) (words : Words) → Shows one id words → Shows other id words
  shows_kept id None shows = new_kept shows
  shows_kept id (Some said) shows = says_kept id said shows

pub keeps_back : (one other : Folder) → KeepsPayloadsOf one other → KeepsPayloadsOf other one
keeps_back one other keeps name =
    elim (keeps name) [
      | inl same ↦ inl (sym same)
      | inr both ↦ inr (record { list = both.list; first = both.second; second = both.first })
    ]

-- ---- good folders

-- no name of the bucket begins as shared names do, so nothing is shown
module _ (objects : Objects) (free : HasNoShared objects) where
  no_object : (o : Identity) → (shown_names objects).objects o ≡ false
  no_object o =
      false_from_ne_true _ (λ y.
      let u = and_parts (is_object o) (contains_key objects (object_name o)) y in
      both_ways (is_shared_name (object_name o)) (free (object_name o) u.1)
      ((prefix_tells_shared (object o) (object_is o u.0)).1 tt))

  no_marker : (m : Marker) → (shown_names objects).markers m ≡ false
  no_marker m =
      false_from_ne_true _ (λ y.
      let u = and_parts (is_marker m) (contains_key objects (name_of m)) y in
      both_ways (is_shared_name (name_of m)) (free (name_of m) u.1)
      ((prefix_tells_shared (as_named m) (marker_named m (marker_in_form m u.0))).1 tt))

  pub free_in_form : NamesInForm objects
  free_in_form name there shared = absurd (both_ways (is_shared_name name) (free name there) shared)

  no_words : (words : ℕ → Words) → ((store : ℕ) → IsStore store → words store ≡ None) → (store : ℕ) → words_of words store ≡ None
  no_words words new store =
      elim (cases_Bool (is_store store)) [
        | inl y ↦ cond-true (is_store store) (words store) None y ∙ new store ((tests_tell_stores store).0 y)
        | inr y ↦ cond-false (is_store store) (words store) None y
      ]

  pub new_sound : (words : ℕ → Words) → ((store : ℕ) → IsStore store → words store ≡ None) → IsSound (closed_world words objects)
  new_sound words new =
      bare_sound (closed_world words objects)
      (λ s n. ap (λ (x : Words). (closed_part 1 x).entries n) (no_words words new s))
      no_object no_marker refl

pub new_stands : (folder : Folder) (objects : Objects) (store : ℕ) → IsNew folder → StandsForSome folder objects store
new_stands folder objects store new = record { count = 0; pairs = empty; stands = inl (new, refl, refl) }

settled_entry : (said : Said) (n : ℕ) (found : Option Identity) (e : Entry) → option_map (closed_entry said n) found ≡ Some e → IsSettled e
settled_entry said n None e p = absurd (cc)
settled_entry said n (Some o) e p = subst IsSettled (same_Some (closed_entry said n o) e p) (settled (is_named said n))
  where
    settled : (b : Bool) → IsSettled (record { object = o; lender = None; stage = if b then Held else Loose })
    settled true = record { stage = refl; no_lender = refl }
    settled false = record { stage = refl; no_lender = refl }

settled_part : (words : Words) (n : ℕ) (e : Entry) → (closed_part 1 words).entries n ≡ Some e → IsSettled e
settled_part None n e p = absurd (cc)
settled_part (Some said) n e p = settled_entry said n (shared_of said.entries n) e p

pub sound_is_steady : (words : ℕ → Words) (objects : Objects) → IsSound (closed_world words objects) → IsSteady (closed_world words objects)
sound_is_steady words objects sound =
    closed_steady (closed_world words objects) sound (λ s n e p. settled_part (words_of words s) n e p) refl

-- the same of what a program may begin with, by images; no clause can speak of all images, so users cite these
module _ (images : ℕ → Folder → Type 0) (objects : Objects) where
  pub new_good : HasNoShared objects → ((store : ℕ) → IsStore store → (folder : Folder) → images store folder → IsNew folder)
      → IsGood images objects
  new_good free new =
      record {
        names = free_in_form objects free;
        each = λ store is folder image. new_stands folder objects store (new store is folder image);
        sound = λ words shown.
            new_sound objects free words
            (λ store is.
            let u = shown store is in
            one_shown u.folder store store (words store) None u.shows (new store is u.folder u.image));
      }

  pub good_steady : IsGood images objects → (words : ℕ → Words)
      → ((store : ℕ) → IsStore store → IsShown (images store) store (words store)) → IsSteady (closed_world words objects)
  good_steady good words shown = sound_is_steady words objects (good.sound words shown)

-- ---- objects that stay

some_if : {A : Type 0} (o : Option A) (P : A → Type 0) → IsSomeAnd o P → IsSome o
some_if None P is = absurd is
some_if (Some x) P is = refl

-- what is stored under an entry's name is there
stored_there : (objects : Objects) (name : Option (List ℕ)) (file : Option (List ℕ)) (P : List ℕ → Type 0)
    → IsSomeAnd (in_place name file (option_and_then (get objects) name)) P → (x : List ℕ) → name ≡ Some x → IsSome (get objects x)
stored_there objects None file P is x p = absurd (cc)
stored_there objects (Some y) None P is x p = some_if (get objects x) P (subst (λ z. IsSomeAnd (get objects z) P) (same_Some y x p) is)
stored_there objects (Some y) (Some bytes) P is x p = absurd is

module _ (objects : Objects) (folder : Folder) (entries : Entries) (layers : ℕ → KeyLayer) where
  there : (item : CreatedItem) → IsStored folder objects entries layers item → (x : List ℕ) → object_of entries item.number ≡ Some x
      → IsSome (get objects x)
  there item is =
      stored_there objects (object_of entries item.number) (folder (file_name Table item.number))
      (IsTableOf item.size (layers item.number)) is

  cons_there : (name : Option (List ℕ)) (rest : List (List ℕ)) → ((x : List ℕ) → name ≡ Some x → IsSome (get objects x))
      → All (λ x. IsSome (get objects x)) rest → All (λ x. IsSome (get objects x)) (cons_option name rest)
  cons_there None rest here all = all
  cons_there (Some x) rest here all = All-cons (λ y. IsSome (get objects y)) x rest (here x refl) all

  pub all_there : (items : List CreatedItem) → All (IsStored folder objects entries layers) items
      → All (λ x. IsSome (get objects x)) (filter_map (λ item. object_of entries item.number) items)
  all_there [] all = All-nil _
  all_there (item ∷ items) all =
      cons_there (object_of entries item.number) (filter_map (λ x. object_of entries x.number) items)
      (there item (All-head (IsStored folder objects entries layers) item items all))
      (all_there items (All-tail (IsStored folder objects entries layers) item items all))

module _ (one other : Objects) (folder : Folder) (id n : ℕ) (m : Map) where
  -- the objects that are named are there
  pub named_there : StandsFor folder one id n m → (words : Words) → Shows folder id words
      → All (λ name. IsSome (get one name)) (named_by words)
  named_there stands None shows = All-nil _
  named_there (inl new) (Some said) shows = absurd (new_says_nothing folder id said new.0 shows)
  named_there (inr means) (Some said) shows =
      subst (λ (x : Said). All (λ name. IsSome (get one name)) (named_objects x.entries x.version))
      (one_said folder id id means.said said means.says shows)
      (all_there one folder means.said.entries means.layers (stored_in means.said.version) means.holds.tables.stored)

  pub stands_alike : StandsFor folder one id n m → ((words : Words) → Shows folder id words → StaysNamed words one other)
      → StandsFor folder other id n m
  stands_alike stands stays =
      stands_beside one other folder id n m
      (λ said says.
      All-both (λ name. IsSome (get one name)) (λ name. IsSome (get one name) → get other name ≡ get one name)
      (λ name. get other name ≡ get one name)
      (λ name is same. same is)
      (named_objects said.entries said.version) (named_there stands (Some said) says) (stays (Some said) says))
      stands
