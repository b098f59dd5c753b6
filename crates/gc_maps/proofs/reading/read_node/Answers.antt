use Rattle.gc_maps.proofs.reading.read_node.Goals as goal

pub word_of-word-requires : goal.word_of-word-requires
word_of-word-requires g c =
    let q = c.requires in
    record { table = q.table; holds = q.holds; ty = q.ty; tree = _; is = q.is }

pub find_node-found-requires : goal.find_node-found-requires
find_node-found-requires g c =
    let q = c.requires in
    record {
      table = q.table;
      place = q.holds.0;
      holds = q.holds.1;
      ty = q.ty;
      left = q.left;
      key = q.key;
      value = q.value;
      right = q.right;
      has = c.word_of-word.ensures q.table q.holds.0 q.ty _ q.holds.1 q.is;
    }

pub give_node-requires : goal.give_node-requires
give_node-requires g c =
    let q = c.requires in
    record {
      table = q.table;
      place = q.holds.0;
      holds = q.holds.1;
      ty = q.ty;
      left = q.left;
      key = q.key;
      value = q.value;
      right = q.right;
      is = c.find_node-found.ensures q.table q.holds.0 q.ty q.left q.key q.value q.right q.holds.1 (c.word_of-word.ensures q.table q.holds.0 q.ty _ q.holds.1 q.is);
    }

pub returns-clause-reads : goal.returns-clause-reads
returns-clause-reads g c t a ty x k v y holds is =
    c.give_node.ensures.reads t holds.place ty x k v y holds.holds
    (c.find_node-found.ensures t holds.place ty x k v y holds.holds (c.word_of-word.ensures t holds.place ty _ holds.holds is))
