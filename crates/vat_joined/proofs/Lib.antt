mod Lists
mod Reaching
mod Acting
mod Journals
mod Serving
mod Promising
mod Logging
