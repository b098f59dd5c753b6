use Rattle.std.proofs.Common.{◌∙◌, ap, refl, ℤ, to_z, of_z, w32}
use Rattle.gc_maps.proofs.NodeReads.{can_in, height_found}
use Rattle.gc_maps.proofs.reading.height_of.Goals as goal

pub word_of-word-requires : goal.word_of-word-requires
word_of-word-requires g c =
    let q = c.requires in
    record { table = q.table; holds = q.holds; ty = q.ty; tree = _; is = q.is }

pub found_in-requires : goal.found_in-requires
found_in-requires g c =
    let q = c.requires in
    can_in g.H.GcHeap.KIND c.args.store.now c.word_of-word.result
    (record { table = q.table; place = q.holds.0; holds = q.holds.1; ty = q.ty; left = q.left; key = q.key; value = q.value; right = q.right; has = c.word_of-word.ensures q.table q.holds.0 q.ty _ q.holds.1 q.is })
    2 _ refl

pub returns : goal.returns
returns g c t ty x k v y holds is low =
    ap (λ (z : ℤ). to_z w32 (of_z w32 z)) c.int_found.ensures
    ∙ height_found g.H.GcHeap.KIND c.args.store.now t holds.0 ty c.word_of-word.result x k v y c.found_in.result holds.1 (c.word_of-word.ensures t holds.0 ty _ holds.1 is) low c.found_in.ensures
