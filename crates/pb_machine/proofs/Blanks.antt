-- A family without its maps: each map is empty.
use Rattle.std.proofs.Common.{◌≡◌, ℕ, suc, ◌==◌, Bool, true, false, not, List, [], ◌∷◌, length, Option, Some, None, is_none, is_some, if◌then◌else◌, option_map, refl, ap}
use Rattle.std.specs.FinMap.{empty}
use Rattle.std.specs.Str.{bytes_eq}
use Rattle.pb_rows.specs.Changing.{Changing, Set, Del, DelRange, Excise, Ingest, IngestExcise, External, Receive}
use Rattle.pb_script.specs.declared.line.Lane.{Lane}
use Rattle.pb_script.specs.declared.line.Lane.TheVariants.{Fg, Bg}
use Rattle.pb_machine.specs.Named.{Named, named, put, without}
use Rattle.pb_machine.specs.Family.{Effect, Keeps, Makes, Views, FamilyState, HandleState, History, PinState, StoreState, Started, in_lane, with_store}
use Rattle.pb_machine.specs.After.{other_pins}

abbrev pub blank_change : Changing → Changing
blank_change (Receive span sub) = Receive span empty
blank_change change = change

abbrev pub blank_effect : Effect → Effect
blank_effect Keeps = Keeps
blank_effect (Makes change) = Makes (blank_change change)
blank_effect (Views view) = Views view

abbrev pub blank_handle : HandleState → HandleState
blank_handle handle = record handle { submap = empty }

abbrev pub blank_started : Started → Started
blank_started started = record started { effect = blank_effect started.effect; handle = option_map blank_handle started.handle }

abbrev pub blank_pin : PinState → PinState
blank_pin pin = record pin { map = empty }

abbrev pub blank_history : History → History
blank_history history = record history { map = empty; pending = option_map blank_change history.pending }

abbrev pub blank_store : StoreState → StoreState
blank_store store =
    record store { history = blank_history store.history; fg = option_map blank_started store.fg; bg = option_map blank_started store.bg }

abbrev pub blank_pairs : {X : Type 0} → (X → X) → Named X → Named X
blank_pairs blank [] = []
blank_pairs blank (first ∷ others) = (first.0, blank first.1) ∷ blank_pairs blank others

abbrev pub blank : FamilyState → FamilyState
blank family =
    record {
      stores = λ n. blank_store (family.stores n);
      tables = family.tables;
      handles = blank_pairs blank_handle family.handles;
      pins = blank_pairs blank_pin family.pins;
      given = family.given;
    }

-- ---- twice is once

pub change_twice : (change : Changing) → blank_change (blank_change change) ≡ blank_change change
change_twice (Receive span sub) = refl
change_twice (Set key value) = refl
change_twice (Del key) = refl
change_twice (DelRange span) = refl
change_twice (Excise span) = refl
change_twice (Ingest layers) = refl
change_twice (IngestExcise span layers) = refl
change_twice (External view layer) = refl

pub effect_twice : (effect : Effect) → blank_effect (blank_effect effect) ≡ blank_effect effect
effect_twice Keeps = refl
effect_twice (Makes change) = ap (λ (c : Changing). Makes c) (change_twice change)
effect_twice (Views view) = refl

pub option_twice : {A : Type 0} (f : A → A) → ((x : A) → f (f x) ≡ f x) → (x : Option A) → option_map f (option_map f x) ≡ option_map f x
option_twice f same None = refl
option_twice f same (Some x) = ap (λ y. Some y) (same x)

handle_twice : (handle : HandleState) → blank_handle (blank_handle handle) ≡ blank_handle handle
handle_twice handle = refl

pub started_twice : (started : Started) → blank_started (blank_started started) ≡ blank_started started
started_twice started i =
    record started {
      effect = effect_twice started.effect i;
      handle = option_twice blank_handle handle_twice started.handle i;
    }

pub lane_twice : (started : Option Started) → option_map blank_started (option_map blank_started started) ≡ option_map blank_started started
lane_twice started = option_twice blank_started started_twice started

pub pending_twice : (change : Option Changing) → option_map blank_change (option_map blank_change change) ≡ option_map blank_change change
pending_twice change = option_twice blank_change change_twice change

pub history_twice : (history : History) → blank_history (blank_history history) ≡ blank_history history
history_twice history i = record history { map = empty; pending = pending_twice history.pending i }

pub store_twice : (store : StoreState) → blank_store (blank_store store) ≡ blank_store store
store_twice store i =
    record store { history = history_twice store.history i; fg = lane_twice store.fg i; bg = lane_twice store.bg i }

pub pairs_twice : {X : Type 0} (f : X → X) → ((x : X) → f (f x) ≡ f x) → (pairs : Named X)
    → blank_pairs f (blank_pairs f pairs) ≡ blank_pairs f pairs
pairs_twice f same [] = refl
pairs_twice f same (first ∷ others) = λ i. (first.0, same first.1 i) ∷ pairs_twice f same others i

pub blank_twice : (family : FamilyState) → blank (blank family) ≡ blank family
blank_twice family i =
    record {
      stores = λ n. store_twice (family.stores n) i;
      tables = family.tables;
      handles = pairs_twice blank_handle (λ h. refl) family.handles i;
      pins = pairs_twice blank_pin (λ p. refl) family.pins i;
      given = family.given;
    }

-- ---- what stands under names

named_if : {X : Type 0} (f : X → X) (b : Bool) (x : X) (more mapped : Option X) → mapped ≡ option_map f more
    → (if b then Some (f x) else mapped) ≡ option_map f (if b then Some x else more)
named_if f true x more mapped same = refl
named_if f false x more mapped same = same

pub named_blank : {X : Type 0} (f : X → X) (pairs : Named X) (name : List ℕ)
    → named (blank_pairs f pairs) name ≡ option_map f (named pairs name)
named_blank f [] name = refl
named_blank f (first ∷ others) name =
    named_if f (bytes_eq name first.0) first.1 (named others name) (named (blank_pairs f others) name) (named_blank f others name)

put_if : {X : Type 0} (f : X → X) (b : Bool) (name : List ℕ) (x : X) (first : List ℕ × X) (others more : Named X) (mapped : Named X)
    → mapped ≡ blank_pairs f more
    → (if b then (name, f x) ∷ blank_pairs f others else (first.0, f first.1) ∷ mapped)
    ≡ blank_pairs f (if b then (name, x) ∷ others else first ∷ more)
put_if f true name x first others more mapped same = refl
put_if f false name x first others more mapped same = ap (λ ms. (first.0, f first.1) ∷ ms) same

pub put_blank : {X : Type 0} (f : X → X) (pairs : Named X) (name : List ℕ) (x : X)
    → put (blank_pairs f pairs) name (f x) ≡ blank_pairs f (put pairs name x)
put_blank f [] name x = refl
put_blank f (first ∷ others) name x =
    put_if f (bytes_eq name first.0) name x first others (put others name x) (put (blank_pairs f others) name (f x))
    (put_blank f others name x)

filter_if : {X : Type 0} (f : X → X) (b : Bool) (first : List ℕ × X) (more mapped : Named X) → mapped ≡ blank_pairs f more
    → (if b then (first.0, f first.1) ∷ mapped else mapped) ≡ blank_pairs f (if b then first ∷ more else more)
filter_if f true first more mapped same = ap (λ ms. (first.0, f first.1) ∷ ms) same
filter_if f false first more mapped same = same

pub without_blank : {X : Type 0} (f : X → X) (pairs : Named X) (name : List ℕ)
    → without (blank_pairs f pairs) name ≡ blank_pairs f (without pairs name)
without_blank f [] name = refl
without_blank f (first ∷ others) name =
    filter_if f (not (bytes_eq name first.0)) first (without others name) (without (blank_pairs f others) name)
    (without_blank f others name)

pub pins_blank : (number : ℕ) (pins : Named PinState)
    → other_pins number (blank_pairs blank_pin pins) ≡ blank_pairs blank_pin (other_pins number pins)
pins_blank number [] = refl
pins_blank number (first ∷ others) =
    filter_if blank_pin (not (first.1.store == number)) first (other_pins number others) (other_pins number (blank_pairs blank_pin others))
    (pins_blank number others)

pub length_blank : {X : Type 0} (f : X → X) (pairs : Named X) → length (blank_pairs f pairs) ≡ length pairs
length_blank f [] = refl
length_blank f (first ∷ others) = ap suc (length_blank f others)

pub some_blank : {A : Type 0} (f : A → A) (x : Option A) → is_some (option_map f x) ≡ is_some x
some_blank f None = refl
some_blank f (Some x) = refl

pub none_blank : {A : Type 0} (f : A → A) (x : Option A) → is_none (option_map f x) ≡ is_none x
none_blank f None = refl
none_blank f (Some x) = refl

pub lane_blank : (s : StoreState) (lane : Lane) → in_lane (blank_store s) lane ≡ option_map blank_started (in_lane s lane)
lane_blank s Fg = refl
lane_blank s Bg = refl

-- ---- one store in the place of another

pub store_if : (b : Bool) (s t : StoreState) → blank_store (if b then s else t) ≡ (if b then blank_store s else blank_store t)
store_if true s t = refl
store_if false s t = refl

pub put_store_blank : (family : FamilyState) (number : ℕ) (s : StoreState)
    → blank (with_store family number s) ≡ with_store (blank family) number (blank_store s)
put_store_blank family number s i = record (blank family) { stores = λ n. store_if (n == number) s (family.stores n) i }
