-- The pages that a heap's memory comes in.
use Rattle.std.specs.Prelude.{ℕ}

-- the bytes of a page
abbrev pub page : ℕ
page = 65536

-- the greatest number of pages of a heap
abbrev pub max_pages : ℕ
max_pages = 65535
