-- A header that is written word by word.
use Rattle.std.proofs.Common.{◌≡◌, ℕ, ◌+◌, ◌<◌, ◌≤◌, ◌^◌, List, length, ◌∙◌, refl, arith}
use Rattle.std.specs.Int.{w32, to_le_bytes}
use Rattle.gc_refs.specs.Header.{Header, header_bytes}
use Rattle.gc_view.specs.Bytes.{u32_at, put_u32}
use Rattle.gc_view.specs.Bytes.{put_bytes}
use Rattle.gc_view.proofs.ByteLemmas.{u32_at-put_u32, u32_at-put_before, length-put_u32}
use Rattle.gc_memory.specs.Changes.{Wrote}
use Rattle.gc_memory.proofs.ChangeLemmas.{put_bytes-append, Wrote-put_bytes}

-- its two words are its bytes
pub header_put : (bytes : List ℕ) (p : ℕ) (h : Header) → p + 8 ≤ length bytes
    → put_u32 (put_u32 bytes p h.kind_word) (p + 4) h.type_word ≡ put_bytes bytes p (header_bytes h)
header_put bytes p h room = put_bytes-append bytes p (to_le_bytes w32 h.kind_word) (to_le_bytes w32 h.type_word) room

-- the kind word is read back
pub kind_word_put : (bytes : List ℕ) (p kind ty : ℕ) → p + 8 ≤ length bytes → kind < 2 ^ 32 → u32_at (put_u32 (put_u32 bytes p kind) (p + 4) ty) p ≡ kind
kind_word_put bytes p kind ty room small =
    let len : length (put_u32 bytes p kind) ≡ length bytes = length-put_u32 bytes p kind (omega arith) in
    u32_at-put_before (put_u32 bytes p kind) (p + 4) ty p (omega arith) (omega arith)
    ∙ u32_at-put_u32 bytes p kind (omega arith) small

-- nothing else changes
pub Wrote-header : (bytes : List ℕ) (p : ℕ) (h : Header) → p + 8 ≤ length bytes → Wrote bytes (put_bytes bytes p (header_bytes h)) p 8
Wrote-header bytes p h room = Wrote-put_bytes bytes p (header_bytes h) 8 refl room
