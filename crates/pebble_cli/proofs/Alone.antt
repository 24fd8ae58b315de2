-- The family whose stores but A were never opened, by the store in memory.
use Rattle.std.proofs.Common.{◌≡◌, ℕ, ◌==◌, Bool, true, false, if◌then◌else◌, [], None, refl, sym, ap}
use Rattle.std.proofs.lemmas.Bool.{eqb-true}
use Rattle.pb_keys.specs.Map.{Map}
use Rattle.pb_machine.specs.Family.{FamilyState, History, Phase, StoreState, Closed as ClosedPhase, Open as OpenPhase, Down as DownPhase, start, unopened, with_store, is_down}
use Rattle.pebble_cli.specs.Lines.{store_a}
use Rattle.pebble_cli.specs.StoreStates.{has_fallen}
use Rattle.pebble_cli.specs.declared.store.Store.{Store}
use Rattle.pebble_cli.specs.declared.store.Store.TheVariants.{Closed, Open, Down}

-- ---- the family whose stores but A were never opened

-- what the machine knows of store A beside what the store in memory holds
pub record Past : Type 0 where
  pub opening : ℕ
  pub history : History

abbrev pub shut : Phase → Past → StoreState
shut phase past = record { phase = phase; opening = past.opening; history = past.history; fg = None; bg = None }

-- the history of an open store: its count is the one in memory
abbrev pub history_of : Store → Past → History
history_of (Open held) past = record { has_begun = true; count = held.count; map = past.history.map; pending = None }
history_of store past = past.history

abbrev pub shown : Store → Past → StoreState
shown Closed past = shut ClosedPhase past
shown (Open held) past = record { phase = OpenPhase; opening = past.opening; history = history_of (Open held) past; fg = None; bg = None }
shown Down past = shut DownPhase past

abbrev pub family : (ℕ → Map) → Store → Past → FamilyState
family maps store past = with_store (start maps) store_a (shown store past)

abbrev pub nothing_past : (ℕ → Map) → Past
nothing_past maps = record { opening = 0; history = record { has_begun = false; count = 0; map = maps store_a; pending = None } }

put_start : (maps : ℕ → Map) (n : ℕ) (b : Bool) → (n == store_a) ≡ b → (if b then unopened (maps store_a) else unopened
    (maps n)) ≡ unopened (maps n)
put_start maps n true is = ap (λ (m : ℕ). unopened (maps m)) (sym (eqb-true n store_a is))
put_start maps n false is = refl

pub family_start : (maps : ℕ → Map) → family maps Closed (nothing_past maps) ≡ start maps
family_start maps i =
    record { stores = λ n. put_start maps n (n == store_a) refl i; tables = []; handles = []; pins = []; given = 0 }

put_twice : (b : Bool) (old new other : StoreState) → (if b then new else (if b then old else other)) ≡ (if b then new else other)
put_twice true old new other = refl
put_twice false old new other = refl

pub family_put : (maps : ℕ → Map) (old new : StoreState) → with_store (with_store (start maps) store_a old) store_a new ≡ with_store
    (start maps) store_a new
family_put maps old new i =
    record { stores = λ n. put_twice (n == store_a) old new (unopened (maps n)) i; tables = []; handles = []; pins = []; given = 0 }

pub down_is : (store : Store) (past : Past) → has_fallen store ≡ is_down (shown store past)
down_is Closed past = refl
down_is (Open held) past = refl
down_is Down past = refl
