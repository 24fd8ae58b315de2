-- What a reader holds: the entries and the restarts of a block.
use Rattle.std.specs.Prelude.{◌≡◌, ℕ, List, []}
use Rattle.std.specs.List.{flat_map}
use Rattle.pb_bytes.specs.BigEndian.{be32}
use Rattle.pb_block.specs.Blocks.{entries, restarts, IsBlock}
use Rattle.pb_block.specs.Reading.{all_behind}

pub record IsHeld (distance : ℕ) (front others : List ℕ) : Type 0 where
  pub block : IsBlock distance (all_behind [] front)
  pub are_entries : front ≡ entries distance (all_behind [] front)
  pub are_restarts : others ≡ flat_map be32 (restarts distance (all_behind [] front))
