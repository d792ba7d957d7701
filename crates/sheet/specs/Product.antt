-- How a product is named in what is printed. Assumes nothing.
use Rattle.std.specs.Prelude.{ℕ, List, codes}
use Rattle.sheet.specs.declared.product.Product.{Product}
use Rattle.sheet.specs.declared.product.Product.TheVariants.{Rapid, Complementary}

abbrev pub product_text : Product → List ℕ
product_text Rapid = codes "RR"
product_text Complementary = codes "RC"
