-- Words that know no house type: choice, folds, places of lists, numbers by bytes, codecs of fixed width, trays.
pub mod Choice
pub mod Fold
pub mod Place
pub mod Lex
pub mod Majority
pub mod Digits
pub mod Number
pub mod Codec
pub mod Tray
