-- What the bitmap's contracts cite.
pub mod Bitmap
