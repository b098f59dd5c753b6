use Rattle.gc_save_image.proofs.laws.what_was_loaded_is_saved_as_the_same_text.Goals as goal

pub returns : goal.returns
returns c = λ t t' bytes again first read second.
    c.a_text_in_turn_comes_back.ensures t t' bytes again (record { text = first.images; in_turn = first.in_turn }) read (record { text = second.images; in_turn = second.in_turn })
