-- The form in which the offers of a name are held.
use Rattle.std.specs.Prelude.{List, [], ◌∷◌}
use Rattle.ctl_index.specs.declared.keys.OfferKey.{OfferKey}
use Rattle.ctl_index.specs.declared.offer_list.Form.{Form}
use Rattle.ctl_index.specs.declared.offer_list.Form.TheVariants.{Empty, One, Many}

abbrev pub offers_of_form : Form → List OfferKey
offers_of_form Empty = []
offers_of_form (One key) = key ∷ []
offers_of_form (Many keys) = keys.value
