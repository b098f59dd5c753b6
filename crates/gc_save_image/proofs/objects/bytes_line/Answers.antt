use Rattle.std.specs.List.{AllByRecursion}
use Rattle.std.proofs.Common.{◌≡◌, ◌<◌, ◌^◌, length, sym, ap, ◌∙◌, subst}
use Rattle.gc_image.specs.declared.image.ObjectLine.TheVariants as line
use Rattle.gc_store.specs.Bytes.{CopiesBytes}
use Rattle.gc_save_image.proofs.Lines.{lent_whole}
use Rattle.gc_save_image.proofs.objects.bytes_line.Goals as goal

pub returns-clause-ok : goal.returns-clause-ok
returns-clause-ok g c t holds =
    let same : length c.copy_bytes.new.dst ≡ length c.in-Ok.bytes.items = c.copy_bytes.auto.dst ∙ ap length c.as_mut_slice.ensures.value in
    let told : c.copy_bytes.new.dst ≡ c.text_of.result = sym (c.text_of.ensures.value ∙ lent_whole c.copy_bytes.new.dst c.in-Ok.bytes.items c.in-Ok.bytes.len same c.in-Ok.bytes.ok.0) in
    (c.text_of.result, ap (λ ty. line.Bytes ty c.text_of.result) c.as_u32.ensures, subst (AllByRecursion (λ b. b < 2 ^ 8)) (sym c.text_of.ensures.value) c.text_of.ensures.fits, subst (CopiesBytes c.args.store.now t c.args.handle) told (c.copy_bytes.ensures t holds))
