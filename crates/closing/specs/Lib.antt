-- What the closing report says of a night, as document 01 puts it and as the code finds it, and the promise that it says this.
pub mod Endings
pub mod Ends
pub mod Holders
pub mod Says
pub mod Closing
pub mod Promise
