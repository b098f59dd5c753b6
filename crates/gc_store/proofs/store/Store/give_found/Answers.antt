use Rattle.std.proofs.Common.{Ok, Err, sym, subst}
use Rattle.gc_model.specs.Forms.{naming, IsIdCode, IsContCode}
use Rattle.gc_model.specs.Stores.{StoreView}
use Rattle.gc_values.specs.declared.stored.Found.{Found}
use Rattle.gc_values.specs.Kept.{FoundStands}
use Rattle.gc_store.proofs.ReadValues.{reads_number, found_reference, reads_found, found_function, reads_function, found_cont, reads_cont, number_there, found_there, function_there, cont_there}
use Rattle.gc_store.proofs.store.Store.give_found.Goals as goal

pub returns-in-Number-clause-reads : goal.returns-in-Number-clause-reads
returns-in-Number-clause-reads g c t place a value holds account stands =
    reads_number g.H.GcHeap.KIND c.args.self.now t a (record { place = place; holds = holds; account = account }) (naming place c.args.self.now.ids) value c.in-Number.value
    (subst (λ (x : Found). FoundStands (naming place c.args.self.now.ids) x value) c.in-Number.is stands)

pub push_reference-requires : goal.push_reference-requires
push_reference-requires g c = λ positive.
    let q = c.requires in
    let is = found_reference _ c.in-Ref.class c.in-Ref.word q.value (subst (λ (x : Found). FoundStands (naming q.place c.args.self.now.ids) x q.value) c.in-Ref.is q.stands) in
    record { table = q.table; place = q.place; holds = q.holds; root = is.root; is_word = is.is_word; not_null = positive }

pub returns-in-Ok-clause-reads : goal.returns-in-Ok-clause-reads
returns-in-Ok-clause-reads g c t place a value holds account stands =
    let is = found_reference _ c.in-Ref.class c.in-Ref.word value (subst (λ (x : Found). FoundStands (naming place c.args.self.now.ids) x value) c.in-Ref.is stands) in
    reads_found g.H.GcHeap.KIND c.args.self.now _ t place a c.in-Ref.class c.in-Ref.word value (Ok c.in-Ok.found) holds account is c.in-Ok.ensures.reads

pub returns-in-Err-clause-reads : goal.returns-in-Err-clause-reads
returns-in-Err-clause-reads g c t place a value holds account stands =
    let is = found_reference _ c.in-Ref.class c.in-Ref.word value (subst (λ (x : Found). FoundStands (naming place c.args.self.now.ids) x value) c.in-Ref.is stands) in
    reads_found g.H.GcHeap.KIND c.args.self.now _ t place a c.in-Ref.class c.in-Ref.word value (Err c.in-Err.fault) holds account is c.in-Err.ensures.reads

pub function_at-requires : goal.function_at-requires
function_at-requires g c =
    let q = c.requires in
    let is = found_function _ c.in-Func.code q.value (subst (λ (x : Found). FoundStands (naming q.place c.args.self.now.ids) x q.value) c.in-Func.is q.stands) in
    (is.func, subst (λ (s : StoreView g.row.D.Denot). IsIdCode s.ids.funcs is.func c.in-Func.code) (sym c.self.view_is) is.is_code)

pub returns-in-Func-clause-reads : goal.returns-in-Func-clause-reads
returns-in-Func-clause-reads g c t place a value holds account stands =
    reads_function g.H.GcHeap.KIND c.args.self.now t a (record { place = place; holds = holds; account = account }) c.args.self.now.ids c.in-Func.code value
    (found_function _ c.in-Func.code value (subst (λ (x : Found). FoundStands (naming place c.args.self.now.ids) x value) c.in-Func.is stands)) c.function_at.result
    (λ f is. c.function_at.ensures f (subst (λ (s : StoreView g.row.D.Denot). IsIdCode s.ids.funcs f c.in-Func.code) (sym c.self.view_is) is))

pub cont_at-requires : goal.cont_at-requires
cont_at-requires g c =
    let q = c.requires in
    let is = found_cont _ c.in-Cont.code q.value (subst (λ (x : Found). FoundStands (naming q.place c.args.self.now.ids) x q.value) c.in-Cont.is q.stands) in
    (is.cont, subst (λ (s : StoreView g.row.D.Denot). IsContCode s.ids.conts is.cont c.in-Cont.code) (sym c.self-in-Cont.view_is) is.is_code)

pub returns-in-Cont-clause-reads : goal.returns-in-Cont-clause-reads
returns-in-Cont-clause-reads g c t place a value holds account stands =
    reads_cont g.H.GcHeap.KIND c.args.self.now t a (record { place = place; holds = holds; account = account }) c.args.self.now.ids c.in-Cont.code value
    (found_cont _ c.in-Cont.code value (subst (λ (x : Found). FoundStands (naming place c.args.self.now.ids) x value) c.in-Cont.is stands)) c.cont_at.result
    (λ k is. c.cont_at.ensures k (subst (λ (s : StoreView g.row.D.Denot). IsContCode s.ids.conts k c.in-Cont.code) (sym c.self-in-Cont.view_is) is))

pub returns-in-Number-clause-there : goal.returns-in-Number-clause-there
returns-in-Number-clause-there g c t place a value there stands =
    number_there g.H.GcHeap.KIND c.args.self.now t place a (naming place c.args.self.now.ids) value c.in-Number.value
    (subst (λ (x : Found). FoundStands (naming place c.args.self.now.ids) x value) c.in-Number.is stands) there

pub returns-in-Ok-clause-there : goal.returns-in-Ok-clause-there
returns-in-Ok-clause-there g c t place a value there stands =
    let is = found_reference _ c.in-Ref.class c.in-Ref.word value (subst (λ (x : Found). FoundStands (naming place c.args.self.now.ids) x value) c.in-Ref.is stands) in
    found_there g.H.GcHeap.KIND _ t place a c.in-Ref.class c.in-Ref.word value is (c.in-Ok.ensures.there t place a c.in-Ref.class is.root there is.is_word)

pub returns-in-Func-clause-there : goal.returns-in-Func-clause-there
returns-in-Func-clause-there g c t place a value there stands =
    function_there g.H.GcHeap.KIND c.args.self.now t place a c.args.self.now.ids c.in-Func.code value
    (found_function _ c.in-Func.code value (subst (λ (x : Found). FoundStands (naming place c.args.self.now.ids) x value) c.in-Func.is stands)) there

pub returns-in-Cont-clause-there : goal.returns-in-Cont-clause-there
returns-in-Cont-clause-there g c t place a value there stands =
    cont_there g.H.GcHeap.KIND c.args.self.now t place a c.args.self.now.ids c.in-Cont.code value
    (found_cont _ c.in-Cont.code value (subst (λ (x : Found). FoundStands (naming place c.args.self.now.ids) x value) c.in-Cont.is stands)) there
