use Rattle.gc_store.proofs.store.Store.read_value.Goals as goal

pub give_found-requires : goal.give_found-requires
give_found-requires g c = record {
  table = c.requires.table;
  place = c.requires.holds.0;
  holds = c.requires.holds.1;
  value = c.requires.value;
  stands = c.found_at-found.ensures c.requires.table c.requires.holds.0 c.requires.value c.requires.holds.1 c.requires.has;
}

pub returns-clause-reads : goal.returns-clause-reads
returns-clause-reads g c t a value holds has =
    c.give_found.ensures.reads t holds.place a value holds.holds holds.account (c.found_at-found.ensures t holds.place value holds.holds has)

pub returns-clause-there : goal.returns-clause-there
returns-clause-there g c t place a value there has =
    c.give_found.ensures.there t place a value there (c.found_at-found.ensures t place value there.0 has)
