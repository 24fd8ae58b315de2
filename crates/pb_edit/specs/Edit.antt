-- What an edit says of a version: five numbers, tables that go and come, backings that come and go.
use Rattle.std.specs.Prelude.{ℕ, List, Option}

pub record DeletedItem : Type 0 where
  pub level : ℕ
  pub number : ℕ

-- a table with bytes of its own, of this size
pub record PhysicalItem : Type 0 where
  pub level : ℕ
  pub number : ℕ
  pub rank : ℕ
  pub size : ℕ
  pub lo : List ℕ
  pub hi : List ℕ

-- a table that shows a part of a backing
pub record VirtualItem : Type 0 where
  pub level : ℕ
  pub number : ℕ
  pub rank : ℕ
  pub backing : ℕ
  pub lo : List ℕ
  pub hi : List ℕ
  pub prefix : List ℕ
  pub suffix : List ℕ

-- a backing, of this size
pub record CreatedItem : Type 0 where
  pub number : ℕ
  pub size : ℕ

pub record VersionEdit : Type 0 where
  pub accepted : Option ℕ
  pub next : Option ℕ
  pub log : Option ℕ
  pub flushed : Option ℕ
  pub format : Option ℕ
  pub deleted : List DeletedItem
  pub physical : List PhysicalItem
  pub virtuals : List VirtualItem
  pub created : List CreatedItem
  pub removed : List ℕ
